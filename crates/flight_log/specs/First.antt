-- The answer at the head of a log, in the papers' values: where the first entry begins and the log's limits, or the refusal's number. Definitions only.
use Rattle.std.specs.Prelude.{ℕ, Result, Ok, Err}
use Rattle.refusals.specs.declared.Refusal.{Refusal}
use Rattle.refusals.specs.Numbers.{number_of}
use Rattle.flight_log.specs.declared.reader.Limits.{Limits}

pub data First : Type 0 where
  At : ℕ → Limits → First
  Refused : ℕ → First

-- what the code says
abbrev pub first_told : Result (ℕ × Limits) Refusal → First
first_told (Ok (at, limits)) = At at limits
first_told (Err r) = Refused (number_of r)
