-- The pits and the sureness of the rows are what is counted, in their order: of any numbers, and of a message that is accepted. Assumes nothing.
use Rattle.wire.proofs.Basics.{◌∙◌, ◌≡◌, ap, refl, ℕ, suc, zero, List, [], ◌∷◌, ◌++◌, map, Bool, length, drop, ℤ}
use mathlib.Core.List.{map-append}
use Rattle.lmcp.specs.Table.{second}
use Rattle.count_rules.specs.Marks.{Mark, at, mark_length, mark_at, marks_in}
use Rattle.pit_marks.specs.Enters.{elements_of}
use Rattle.mark_rows.specs.Placed.{PlacedMark, placed_by, placed_at, placed_in, placed_of}

abbrev pub marks_of_lem : List PlacedMark → List Mark
marks_of_lem = map (λ m. m.mark)

module _ (two : Bool) where
  one-mark : (l : List ℤ) (ms : List Mark) → marks_of_lem (map (placed_by two l) ms) ≡ ms
  one-mark l [] = refl
  one-mark l (m ∷ ms) = ap (λ (ns : List Mark). m ∷ ns) (one-mark l ms)

  pub marks-are : (n : ℕ) (l : List ℤ) → marks_of_lem (placed_in two n l) ≡ marks_in two n l
  unfolding placed_in placed_at marks_in
  marks-are zero l = refl
  marks-are (suc n) l =
      map-append (λ (m : PlacedMark). m.mark) (placed_at two l) (placed_in two n (drop (mark_length two l) l))
      ∙ (λ i. one-mark l (mark_at l) i ++ marks-are n (drop (mark_length two l) l) i)

-- those that `enter_list` enters
pub rows-counted : (l : List ℤ) → marks_of_lem (placed_of l) ≡ elements_of l
rows-counted l = marks-are (second (at l 0)) (length (drop 4 l)) (drop 4 l)
