-- THE SETS THAT ARE LENT: words for the tiles, for the pits of all tiles, and for the sure ones; and what they hold of the lists seen. Definitions only.
use Rattle.std.specs.Prelude.{◌≡◌, true, List, ◌++◌, ℕ, ltb, length}
use Rattle.wire.specs.Choice.{◌when◌else◌}
use Rattle.sorted_set.specs.Lists.{In, rising}
use Rattle.sorted_set.specs.Halving.{held, Holds}
use Rattle.count_rules.specs.Marks.{Mark, PitList}
use Rattle.count_rules.specs.Report.{tiles}
use Rattle.count_rules.specs.Keys.{pit_keys, sure_keys, AllWithin}
use Rattle.pit_marks.specs.declared.Sizes.{Sizes}

pub record Sets : Type 0 where
  pub tiles : List ℕ
  pub pits : List ℕ
  pub sure : List ℕ

abbrev pub sets_of : List ℕ → List ℕ → List ℕ → Sets
sets_of t p s = record { tiles = t; pits = p; sure = s }

-- how many words each has
abbrev pub rooms : Sets → Sizes
rooms x = record { tiles = length x.tiles; pits = length x.pits; sure = length x.sure }

-- sizes above what is lent count as what is lent
abbrev pub held_in : Sets → Sizes → Sizes
held_in x had = record { tiles = held x.tiles had.tiles; pits = held x.pits had.pits; sure = held x.sure had.sure }

-- they hold the tiles, the pits and the sure pits of the lists seen, rising, and nothing else; in however many words
pub record Has (x : Sets) (had : Sizes) (seen : List PitList) : Type 0 where
  pub the-tiles : Holds x.tiles had.tiles (tiles seen)
  pub the-pits : Holds x.pits had.pits (rising (pit_keys seen))
  pub the-sure : Holds x.sure had.sure (rising (sure_keys seen))
  pub within : AllWithin seen

-- what stands against lists in so many words, 0 for nothing: more tiles than words, then more pits, or more sure ones
abbrev pub over : Sizes → List PitList → ℕ
over room ls =
    60 when ltb room.tiles (length (tiles ls)) else
    61 when ltb room.pits (length (rising (pit_keys ls))) else
    61 when ltb room.sure (length (rising (sure_keys ls))) else
    0

-- ---- a list that is refused: what was entered by then is a part of it

-- a mark of that pit is among these, and a sure one if this one is sure
pub record MarkedIn (m : Mark) (ms : List Mark) : Type 0 where
  pub mark : Mark
  pub among : In mark ms
  pub its-pit : mark.pit ≡ m.pit
  pub as-sure : m.sure ≡ true → mark.sure ≡ true

-- m is a part of one of these lists
pub record PartOf (m : PitList) (ls : List PitList) : Type 0 where
  pub whole : PitList
  pub among : In whole ls
  pub its-tile : m.tile ≡ whole.tile
  pub its-marks : (x : Mark) → In x m.marks → MarkedIn x whole.marks

-- the lists seen, and of the lists ls parts or nothing
pub record Partly (x : Sets) (had : Sizes) (ls seen : List PitList) : Type 0 where
  pub lists : List PitList
  pub parts : (m : PitList) → In m lists → PartOf m ls
  pub has : Has x had (lists ++ seen)
