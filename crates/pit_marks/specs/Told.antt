-- The code's answer in the paper's values, and the three sets as it has them. Definitions only.
use Rattle.std.specs.Prelude.{◌≡◌, Result, Ok, Err}
use Rattle.refusals.specs.declared.Refusal.{Refusal}
use Rattle.refusals.specs.Numbers.{number_of}
use Rattle.pit_marks.specs.declared.Sizes.{Sizes}
use Rattle.pit_marks.specs.declared.PitSets.{PitSets}
use Rattle.pit_marks.specs.Taken.{Taken, Now, Refused}
use Rattle.pit_marks.specs.Sets.{Sets, sets_of}

-- the answer, with the sizes that are left
abbrev pub told : Result (Unit {0}) Refusal → Sizes → Taken
told (Ok u) now = Now now
told (Err r) now = Refused now (number_of r)

abbrev pub sets_in : PitSets → Sets
sets_in s = sets_of s.tiles.now s.pits.now s.sure.now

-- the words are still those that were lent
pub record SameWords (s t : PitSets) : Type 0 where
  pub for-tiles : t.tiles.ghost_name ≡ s.tiles.ghost_name
  pub for-pits : t.pits.ghost_name ≡ s.pits.ghost_name
  pub for-sure : t.sure.ghost_name ≡ s.sure.ghost_name
