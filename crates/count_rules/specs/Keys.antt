-- Tile and pit in one number, in the order of tiles and then of pits: so that one rising list holds the pits of all tiles. Definitions only.
use Rattle.std.specs.Prelude.{List, map, ℕ, ◌+◌, ◌*◌, ◌^◌, ◌<◌}
use Rattle.sorted_set.specs.Lists.{In, gather}
use Rattle.count_rules.specs.Marks.{Mark, PitList}
use Rattle.count_rules.specs.Report.{pit_of_lem, pit_if_sure}

-- tiles and pits are uint32
abbrev pub span : ℕ
span = 2 ^ 32

abbrev pub pit_key : ℕ → ℕ → ℕ
pit_key t p = t * span + p

-- the keys of the pits that h takes from lists
abbrev pub keys_by : (Mark → List ℕ) → List PitList → List ℕ
keys_by h ls = gather (λ l. map (pit_key l.tile) (gather h l.marks)) ls

abbrev pub pit_keys : List PitList → List ℕ
pit_keys = keys_by pit_of_lem

abbrev pub sure_keys : List PitList → List ℕ
sure_keys = keys_by pit_if_sure

-- a list's tile and pits are uint32
pub record Within (l : PitList) : Type 0 where
  pub tile : l.tile < span
  pub pits : (m : Mark) → In m l.marks → m.pit < span

abbrev pub AllWithin : List PitList → Type 0
AllWithin ls = (l : PitList) → In l ls → Within l
