-- WHAT THE C HOST IS TOLD OF A COUNT, for all that it may lend. Definitions only.
use Rattle.std.specs.Prelude.{◌≡◌, List, ℕ, length}
use Rattle.wire.specs.Slices.{short}
use Rattle.wire.specs.Choice.{pick}
use Rattle.wire.specs.Overlay.{overlay}
use Rattle.count_rules.specs.Count.{Outcome, reported, no_report, count_log_lem}
use Rattle.count_rules.specs.Walk.{held_by, loan_of}
use Rattle.count.specs.Counts.{Loan, given}
use Rattle.host_count.specs.Numbers.{report_length, numbers_of}

-- 0, or the refusal's number
abbrev pub code_of : Outcome → ℕ
code_of (reported r) = 0
code_of (no_report n) = n

-- the report's numbers stand at the start of the list, and the rest stays; a refusal leaves it
abbrev pub report_left : Outcome → List ℕ → List ℕ
report_left (reported r) list = overlay list 0 (numbers_of (given r))
report_left (no_report n) list = list

-- 13 first, where the list for the report is too short: then nothing is done
pub record CountTold (log : List ℕ) (l : Loan) (report : List ℕ) (answer : ℕ) (l' : Loan) (report' : List ℕ) : Type 0 where
  pub gave : answer ≡ pick (short report_length report) 13 (code_of (count_log_lem (length l.list) l.store l.ledger log))
  pub report-left : report' ≡ pick (short report_length report) report (report_left (count_log_lem (length l.list) l.store l.ledger log) report)
  pub left : l' ≡ pick (short report_length report) l (loan_of (held_by l.store l.ledger l.list log))
