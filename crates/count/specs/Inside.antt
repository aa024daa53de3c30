-- INSIDE: the whole log, read for its own refusals, and the report. Definitions only; no promise of a public function rests on them.
use Rattle.std.specs.Prelude.{◌≡◌, List, ℕ, ◌≤◌, ltb, length, Result, Ok, Err}
use Rattle.refusals.specs.declared.Refusal.{Refusal}
use Rattle.refusals.specs.Numbers.{number_of}
use Rattle.wire.specs.Choice.{pick}
use Rattle.flight_log.specs.Entries.{Entry}
use Rattle.flight_log.specs.Listed.{Listed, whole, broken, entries_in}
use Rattle.count_rules.specs.Report.{Line}
use Rattle.count_rules.specs.Count.{max_entries, max_tiles, max_pits, Report}
use Rattle.pit_marks.specs.declared.Sizes.{Sizes}
use Rattle.stretch.specs.declared.Totals.{Totals}

-- ---- the whole log, read for its own refusals

-- its entries, or the refusal
pub data Surveyed : Type 0 where
  Entries : ℕ → Surveyed
  Refused : ℕ → Surveyed

-- what the code says
abbrev pub surveyed_told : Result ℕ Refusal → Surveyed
surveyed_told (Ok n) = Entries n
surveyed_told (Err r) = Refused (number_of r)

abbrev pub many : ℕ → Surveyed
many n = pick (ltb max_entries n) (Refused 62) (Entries n)

abbrev pub survey_of : Listed → Surveyed
survey_of (whole es) = many (length es)
survey_of (broken es n) = Refused n

-- a log that was read whole, of so many entries
pub record Whole (log : List ℕ) (n : ℕ) : Type 0 where
  pub entries : List Entry
  pub is : entries_in log ≡ whole entries
  pub size : n ≡ length entries
  pub few : n ≤ max_entries

-- ---- the count's own sets, and the report

-- so many words they have
abbrev pub own : Sizes
own = record { tiles = max_tiles; pits = max_pits; sure = max_pits }

-- the report of so many entries, by their totals and the tile lines
abbrev pub report_with : ℕ → Totals → List Line → Report
report_with n t lines = record { entries = n; kept = t.kept; repeated = t.repeated; delivered = t.delivered; refused = t.refused; lists = t.lists; lines = lines }
