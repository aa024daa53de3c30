-- What a payload is, in the paper's values: no PitList, or one, with how many numbers the sets then have; or how many they have by then, and the number of the
-- refusal. Definitions only.
use Rattle.std.specs.Prelude.{ℕ, Bool, true, false, Result, Ok, Err}
use Rattle.refusals.specs.declared.Refusal.{Refusal}
use Rattle.refusals.specs.Numbers.{number_of}
use Rattle.pit_marks.specs.declared.Sizes.{Sizes}

pub data Looked : Type 0 where
  Other : Looked
  Listed : Sizes → Looked
  Refused : Sizes → ℕ → Looked

-- what the code says, with the sizes that are left
abbrev pub told : Result Bool Refusal → Sizes → Looked
told (Ok true) now = Listed now
told (Ok false) now = Other
told (Err r) now = Refused now (number_of r)
