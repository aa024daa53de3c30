-- The answer of a lookup, in the papers' values: where the first entry of a key begins, that there is none, or the refusal's number. Definitions only.
use Rattle.std.specs.Prelude.{ℕ, Result, Ok, Err, Option, Some, None}
use Rattle.refusals.specs.declared.Refusal.{Refusal}
use Rattle.refusals.specs.Numbers.{number_of}

pub data Looked : Type 0 where
  At : ℕ → Looked
  Nowhere : Looked
  Refused : ℕ → Looked

-- what the code says
abbrev pub looked_told : Result (Option ℕ) Refusal → Looked
looked_told (Ok (Some place)) = At place
looked_told (Ok None) = Nowhere
looked_told (Err r) = Refused (number_of r)
