-- What is reported of PitLists: for each tile, in rising number, its distinct pits and how many of them are sure. Definitions only.
use Rattle.std.specs.Prelude.{List, [], ◌∷◌, map, ℕ, eqb, length}
use Rattle.wire.specs.Choice.{pick}
use Rattle.sorted_set.specs.Lists.{gather, rising}
use Rattle.count_rules.specs.Marks.{Mark, PitList}

-- the tiles named, rising; a list without marks still names its tile
abbrev pub tiles : List PitList → List ℕ
tiles ls = rising (gather (λ l. l.tile ∷ []) ls)

-- the marks under tile t
abbrev pub under : ℕ → PitList → List Mark
under t l = pick (eqb l.tile t) l.marks []

-- the distinct numbers that h takes from the marks under tile t, whatever the number of lists
abbrev pub distinct : (Mark → List ℕ) → List PitList → ℕ → List ℕ
distinct h ls t = rising (gather (λ l. gather h (under t l)) ls)

-- its pits
abbrev pub pit_of_lem : Mark → List ℕ
pit_of_lem m = m.pit ∷ []

abbrev pub pits : List PitList → ℕ → List ℕ
pits = distinct pit_of_lem

-- and those marked sure in any of its lists
abbrev pub pit_if_sure : Mark → List ℕ
pit_if_sure m = pick m.sure (m.pit ∷ []) []

abbrev pub sure_pits : List PitList → ℕ → List ℕ
sure_pits = distinct pit_if_sure

-- "tile 9 pits 14 sure 11"
pub record Line : Type 0 where
  pub tile : ℕ
  pub pits : ℕ
  pub sure : ℕ

abbrev pub line : List PitList → ℕ → Line
line ls t = record { tile = t; pits = length (pits ls t); sure = length (sure_pits ls t) }

unfoldable pub report : List PitList → List Line
report ls = map (line ls) (tiles ls)
