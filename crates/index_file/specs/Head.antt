-- The answer at the head of an index file, in the papers' values: how many bytes of the log it covers and how many rows it has, or the refusal's number.
-- Definitions only.
use Rattle.std.specs.Prelude.{ℕ, Result, Ok, Err}
use Rattle.refusals.specs.declared.Refusal.{Refusal}
use Rattle.refusals.specs.Numbers.{number_of}

pub data Head : Type 0 where
  Of : ℕ → ℕ → Head
  Refused : ℕ → Head

-- what the code says
abbrev pub head_told : Result (ℕ × ℕ) Refusal → Head
head_told (Ok (covered, n)) = Of covered n
head_told (Err r) = Refused (number_of r)
