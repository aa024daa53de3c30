-- What the reader answers, in the papers' values: how many numbers the list now begins with, or the number of the refusal. Definitions only.
use Rattle.std.specs.Prelude.{ℕ, Result, Ok, Err}
use Rattle.refusals.specs.declared.Refusal.{Refusal}
use Rattle.refusals.specs.Numbers.{number_of}

pub data Found : Type 0 where
  Numbers : ℕ → Found
  Refused : ℕ → Found

-- what the code says
abbrev pub found_told : Result ℕ Refusal → Found
found_told (Ok n) = Numbers n
found_told (Err r) = Refused (number_of r)
