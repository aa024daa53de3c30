-- The count of a log: its report, or the number of the refusal, with no report given. Definitions only.
use Rattle.std.specs.Prelude.{Bool, false, List, [], ◌∷◌, ◌++◌, ℕ, eqb, ltb, length}
use Rattle.wire.specs.Choice.{pick, ◌when◌else◌}
use Rattle.steps.specs.Answers.{Reply}
use Rattle.steps.specs.Runs.{fresh}
use Rattle.lmcp.specs.Run.{got, refused}
use Rattle.lmcp.specs.Read.{Read}
use Rattle.lmcp.specs.Lists.{read_list}
use Rattle.flight_log.specs.declared.reader.Limits.{Limits}
use Rattle.flight_log.specs.Editions.{limits_in_lem}
use Rattle.flight_log.specs.Entries.{Entry}
use Rattle.flight_log.specs.Listed.{Listed, whole, broken, entries_in}
use Rattle.sorted_set.specs.Lists.{total}
use Rattle.count_rules.specs.Marks.{PitList, list_in}
use Rattle.count_rules.specs.Report.{tiles, pits, Line, report}
use Rattle.count_rules.specs.Run.{answers, kept_in, repeated_in, delivered_in, refused_in, payloads, lists_read}

-- ---- limits

abbrev pub max_entries : ℕ
max_entries = 4096

abbrev pub max_tiles : ℕ
max_tiles = 256

abbrev pub max_pits : ℕ
max_pits = 8192

-- a pit counts under each tile once
abbrev pub pits_in_all : List PitList → ℕ
pits_in_all ls = total (λ t. length (pits ls t)) (tiles ls)

-- an accepted message, of whatever type, whose numbers a list with room for so many does not hold
abbrev pub too_long : ℕ → Read → Bool
too_long room (got l r) = ltb room (length l)
too_long room (refused n) = false

-- What stands against one more payload after the lists seen: 0 for nothing, else the number of the refusal; a list's tile before its pits.
unfoldable pub fault : ℕ → List PitList → List ℕ → ℕ
fault room seen payload =
    13 when too_long room (read_list payload) else
    60 when ltb max_tiles (length (tiles (list_in payload ++ seen))) else
    61 when ltb max_pits (pits_in_all (list_in payload ++ seen)) else
    0

-- the first that stands against a payload, in order; 0 for none
unfoldable pub first_fault : ℕ → List PitList → List (List ℕ) → ℕ
first_fault room seen [] = 0
first_fault room seen (p ∷ ps) = pick (eqb (fault room seen p) 0) (first_fault room (list_in p ++ seen) ps) (fault room seen p)

-- ---- the report

pub record Report : Type 0 where
  pub entries : ℕ
  pub kept : ℕ
  pub repeated : ℕ
  pub delivered : ℕ
  -- under each number from 0 to 9
  pub refused : List ℕ
  -- how many lists were read
  pub lists : ℕ
  -- of each tile, in rising number
  pub lines : List Line

-- of entries and their answers
unfoldable pub report_of : List Entry → List Reply → Report
report_of es rs = record {
  entries = length es;
  kept = kept_in rs;
  repeated = repeated_in rs;
  delivered = delivered_in rs;
  refused = refused_in rs;
  lists = length (lists_read (payloads rs));
  lines = report (lists_read (payloads rs));
}

-- ---- the count

pub data Outcome : Type 0 where
  reported : Report → Outcome
  -- refused, by that number
  no_report : ℕ → Outcome

-- the answers to a log's entries, within its limits, through a fresh receiver over the lent store and ledger
abbrev pub answers_to : Limits → List ℕ → List ℕ → List Entry → List Reply
answers_to l store ledger es = answers l (fresh store ledger) es

-- by the number that stands against it
abbrev pub unless : ℕ → Report → Outcome
unless n r = pick (eqb n 0) (reported r) (no_report n)

-- entries that were read whole, with a number list of so many numbers
unfoldable pub count_entries : Limits → ℕ → List ℕ → List ℕ → List Entry → Outcome
count_entries l room store ledger es =
    pick (ltb max_entries (length es)) (no_report 62)
    (unless (first_fault room [] (payloads (answers_to l store ledger es))) (report_of es (answers_to l store ledger es)))

-- the log's own refusal over the whole log first
abbrev pub count_listed : Limits → ℕ → List ℕ → List ℕ → Listed → Outcome
count_listed l room store ledger (whole es) = count_entries l room store ledger es
count_listed l room store ledger (broken es n) = no_report n

-- THE COUNT OF A LOG: of its bytes, with the lent store and ledger, and a number list with room for so many numbers
unfoldable pub count_log_lem : ℕ → List ℕ → List ℕ → List ℕ → Outcome
count_log_lem room store ledger log = count_listed (limits_in_lem log) room store ledger (entries_in log)
