-- What the writer answers, in the papers' values: how many bytes the output now begins with, or the number of the refusal. Definitions only.
use Rattle.std.specs.Prelude.{ℕ, Result, Ok, Err}
use Rattle.refusals.specs.declared.Refusal.{Refusal}
use Rattle.refusals.specs.Numbers.{number_of}

pub data Made : Type 0 where
  Bytes : ℕ → Made
  Refused : ℕ → Made

-- what the code says
abbrev pub made_told : Result ℕ Refusal → Made
made_told (Ok n) = Bytes n
made_told (Err r) = Refused (number_of r)
