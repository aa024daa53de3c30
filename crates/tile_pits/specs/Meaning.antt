-- What the pits of a tile mean, in the request's words, over sets that hold the marks of lists. Its proofs are `pits-mean` and, of a call, `pits-called` of proofs/Means. Definitions only.
use Rattle.std.specs.Prelude.{◌≡◌, ◌↔◌, List, [], ◌∷◌, ℕ, eqb, length, take}
use Rattle.wire.specs.Choice.{pick}
use Rattle.sorted_set.specs.Lists.{In, Rising}
use Rattle.count_rules.specs.Marks.{PitList}
use Rattle.count_rules.specs.Report.{pits, sure_pits}
use Rattle.count_rules.specs.Meaning.{Marks, MarksSure}
use Rattle.pit_marks.specs.declared.Sizes.{Sizes}
use Rattle.pit_marks.specs.Sets.{Sets}
use Rattle.pit_marks.specs.Lines.{pits_in}
use Rattle.tile_pits.specs.Pits.{Map, map_of}

-- the two sets of pits of three
abbrev pub pits_of_lem : Sets → Sizes → Map
pits_of_lem x had = map_of x.pits had.pits x.sure had.sure

-- the numbers with a 1 beside them
abbrev pub chosen : List ℕ → List ℕ → List ℕ
chosen [] cs = []
chosen (p ∷ ps) [] = []
chosen (p ∷ ps) (c ∷ cs) = pick (eqb c 1) (p ∷ chosen ps cs) (chosen ps cs)

-- each pit that a list of the tile marks stands there once, rising, and nothing else; with a 1 beside it where a list of the tile marks it sure; and the tile's
-- line counts them
pub record Shows (ls : List PitList) (x : Sets) (had : Sizes) (t : ℕ) (numbers certain : List ℕ) : Type 0 where
  pub rise : Rising numbers
  pub marked : (p : ℕ) → In p numbers ↔ Marks ls t p
  pub marked-sure : (p : ℕ) → In p (chosen numbers certain) ↔ MarksSure ls t p
  pub reported : numbers ≡ pits ls t
  pub reported-sure : chosen numbers certain ≡ sure_pits ls t
  pub line : length numbers ≡ pits_in x.pits had.pits t
  pub line-sure : length (chosen numbers certain) ≡ pits_in x.sure had.sure t

-- what the two outputs of a call that answered n begin with
pub record Called (ls : List PitList) (t n : ℕ) (number certain : List ℕ) : Type 0 where
  pub many : n ≡ length (pits ls t)
  pub numbers : take n number ≡ pits ls t
  pub sureness : chosen (take n number) (take n certain) ≡ sure_pits ls t
