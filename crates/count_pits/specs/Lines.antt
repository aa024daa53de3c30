-- What the program writes of a count. Definitions only.
use Rattle.std.specs.Prelude.{List, ◌++◌, map, ℕ, length}
use Rattle.count_rules.specs.Count.{Outcome, reported, no_report, count_log_lem}
use Rattle.count_rules.specs.Count as counting
use Rattle.count.specs.Answer.{Answer, Given, Refused}
use Rattle.count.specs.Answer.{Counted}
use Rattle.count.specs.declared.Report.{Report}
use Rattle.count_lines.specs.Lines.{total_lines, refused_lines, lists_line, tile_lines, refusal_line}

-- the totals, the refusals that occurred, the lists read, and the tiles
abbrev pub lines_of : counting.Report → List ℕ
lines_of r =
    total_lines r.entries r.kept r.repeated r.delivered
    ++ refused_lines (length r.refused) r.refused
    ++ lists_line r.lists
    ++ tile_lines (length r.lines) (map (λ x. x.tile) r.lines) (map (λ x. x.pits) r.lines) (map (λ x. x.sure) r.lines)

-- WHAT IS WRITTEN OF AN OUTCOME: a count that is refused is its number alone
abbrev pub outcome_lines : Outcome → List ℕ
outcome_lines (reported r) = lines_of r
outcome_lines (no_report n) = refusal_line n

-- of a log, by a list of so many numbers and a store and a ledger that are lent
abbrev pub log_lines_lem : ℕ → List ℕ → List ℕ → List ℕ → List ℕ
log_lines_lem numbers store ledger log = outcome_lines (count_log_lem numbers store ledger log)

-- ---- the same of the struct that the code has

abbrev pub report_lines : Report → List ℕ
report_lines r =
    total_lines r.entries r.kept r.repeated r.delivered
    ++ refused_lines (length r.refused) r.refused
    ++ lists_line r.lists
    ++ tile_lines r.tiles r.tile r.pits r.sure

abbrev pub lines_by : Answer → Report → List ℕ
lines_by Given r = report_lines r
lines_by (Refused n) r = refusal_line n

abbrev pub count_lines_lem : Counted → List ℕ
count_lines_lem c = lines_by c.answer c.report
