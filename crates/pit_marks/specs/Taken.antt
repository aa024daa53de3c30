-- What becomes of a list, in the paper's values: how many numbers the sets have with it; or how many they have by then, and the number of the refusal. Definitions only.
use Rattle.std.specs.Prelude.{ℕ}
use Rattle.pit_marks.specs.declared.Sizes.{Sizes}

pub data Taken : Type 0 where
  Now : Sizes → Taken
  Refused : Sizes → ℕ → Taken
