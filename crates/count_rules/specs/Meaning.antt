-- What the tile lines mean, in the request's words. Its proof is `lines-mean` of proofs/Means. Definitions only.
use Rattle.std.specs.Prelude.{◌≡◌, ◌↔◌, true, List, ℕ, ◌≤◌, length}
use Rattle.sorted_set.specs.Lists.{In, Rising}
use Rattle.count_rules.specs.Marks.{Mark, PitList}
use Rattle.count_rules.specs.Report.{tiles, pits, sure_pits}

-- a list, with or without marks, names its tile
pub record Names (ls : List PitList) (t : ℕ) : Type 0 where
  pub list : PitList
  pub among : In list ls
  pub its-tile : list.tile ≡ t

-- a list of tile t has a mark of pit p
pub record Marks (ls : List PitList) (t p : ℕ) : Type 0 where
  pub list : PitList
  pub among : In list ls
  pub its-tile : list.tile ≡ t
  pub mark : Mark
  pub inside : In mark list.marks
  pub its-pit : mark.pit ≡ p

-- and that mark is sure
pub record MarksSure (ls : List PitList) (t p : ℕ) : Type 0 where
  pub marks : Marks ls t p
  pub is-sure : marks.mark.sure ≡ true

-- each tile, pit and sure pit stands there once, in rising number, and nothing else
pub record Means (ls : List PitList) : Type 0 where
  pub tiles-rise : Rising (tiles ls)
  pub tiles-named : (t : ℕ) → In t (tiles ls) ↔ Names ls t
  pub pits-rise : (t : ℕ) → Rising (pits ls t)
  pub pits-marked : (t p : ℕ) → In p (pits ls t) ↔ Marks ls t p
  pub sure-rise : (t : ℕ) → Rising (sure_pits ls t)
  pub sure-marked : (t p : ℕ) → In p (sure_pits ls t) ↔ MarksSure ls t p
  pub sure-fewer : (t : ℕ) → length (sure_pits ls t) ≤ length (pits ls t)
