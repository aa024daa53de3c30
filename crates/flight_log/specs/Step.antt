-- A step of the reader, in the papers' values: the entry that it found, the log's end, or the refusal's number. Definitions only.
use Rattle.std.specs.Prelude.{ℕ, Result, Ok, Err, Option, Some, None}
use Rattle.refusals.specs.declared.Refusal.{Refusal}
use Rattle.refusals.specs.Numbers.{number_of}
use Rattle.flight_log.specs.declared.reader.EntryAt.{EntryAt}

pub data Step : Type 0 where
  Found : EntryAt → Step
  End : Step
  Refused : ℕ → Step

-- what the code says
abbrev pub step_told : Result (Option EntryAt) Refusal → Step
step_told (Ok (Some e)) = Found e
step_told (Ok None) = End
step_told (Err r) = Refused (number_of r)
