-- The marks of a list's elements, to the end of its numbers: one element more, and none left. Assumes nothing.
use Rattle.wire.proofs.Basics.{◌∙◌, sym, ◌≡◌, ap, refl, ℕ, ◌≤◌, ◌+◌, ◌<◌, ◌-◌, suc, zero, min, List, [], ◌∷◌, ◌++◌, Bool, length, drop, length-append, length-drop, drop_of_length-le, drop-drop, ℤ}
use Rattle.wire.proofs.Basics.{arith}
use Rattle.count_rules.specs.Marks.{mark_length, mark_at}
use Rattle.pit_marks.proofs.ElementTurn.{takes_one, drop-most}
use Rattle.mark_rows.specs.Placed.{PlacedMark, placed_at, placed_in}
use Rattle.mark_rows.specs.InsideRows.{placed_from}

-- past the end of the numbers there are no marks
pub placed-none : (two : Bool) (n : ℕ) → placed_in two n [] ≡ []
unfolding placed_in placed_at mark_at mark_length
placed-none two zero = refl
placed-none two (suc n) = placed-none two n

module _ (two : Bool) where
  -- as many turns as there are numbers are enough
  enough : (k j : ℕ) (l : List ℤ) → length l ≤ k → length l ≤ j → placed_in two k l ≡ placed_in two j l
  unfolding placed_in
  enough zero j [] h g = sym (placed-none two j)
  enough zero j (z ∷ l) h g = absurd (let q : ⊥ = omega arith in q)
  enough (suc k) zero [] h g = placed-none two (suc k)
  enough (suc k) zero (z ∷ l) h g = absurd (let q : ⊥ = omega arith in q)
  enough (suc k) (suc j) l h g =
      let m = mark_length two l in
      let o : 1 ≤ m = takes_one two l in
      ap (λ (ms : List PlacedMark). placed_at two l ++ ms) (enough k j (drop m l) (rw (length-drop m l) (omega arith)) (rw (length-drop m l) (omega arith)))

  some : (k : ℕ) (l : List ℤ) → length l ≡ suc k
      → placed_in two (length l) l ≡ placed_at two l ++ placed_in two (length (drop (mark_length two l) l)) (drop (mark_length two l) l)
  unfolding placed_in
  some k l e =
      let m = mark_length two l in
      let o : 1 ≤ m = takes_one two l in
      ap (λ (n : ℕ). placed_in two n l) e
      ∙ ap (λ (ms : List PlacedMark). placed_at two l ++ ms) (enough k (length (drop m l)) (drop m l) (rw (length-drop m l) (omega arith)) (omega arith))

  module _ (l : List ℤ) (place : ℕ) where
    -- the element at a place, then those from the next on
    pub placed-turn : place < length l → placed_from two l place ≡ placed_at two (drop place l) ++ placed_from two l (min (place + mark_length two (drop place l)) (length l))
    placed-turn h =
        let d = drop place l in
        let n = mark_length two d in
        let k : length d ≡ suc (length l - place - 1) = rw (length-drop place l) (omega arith) in
        some (length l - place - 1) d k
        ∙ ap (λ (r : List ℤ). placed_at two d ++ placed_in two (length r) r) (drop-drop n place l ∙ drop-most (place + n) l)

    -- none at the end
    pub placed_end : length l ≤ place → placed_from two l place ≡ []
    placed_end h = ap (λ (r : List ℤ). placed_in two (length r) r) (drop_of_length-le l h) ∙ placed-none two 0

    -- each turn goes on
    pub goes_on_lem : (next : ℕ) → place < length l → next ≡ min (place + mark_length two (drop place l)) (length l) → place < next
    goes_on_lem next h e = let o : 1 ≤ mark_length two (drop place l) = takes_one two (drop place l) in omega arith

    pub turn-long : (next : ℕ) → place < length l → next ≡ min (place + mark_length two (drop place l)) (length l)
        → length (placed_from two l place) ≡ length (placed_at two (drop place l)) + length (placed_from two l next)
    turn-long next h e =
        ap (λ (ms : List PlacedMark). length ms) (placed-turn h)
        ∙ (length-append (placed_at two (drop place l)) (placed_from two l (min (place + mark_length two (drop place l)) (length l)))
        ∙ ap (λ (k : ℕ). length (placed_at two (drop place l)) + length (placed_from two l k)) (sym e))

    pub end-long : length l ≤ place → length (placed_from two l place) ≡ 0
    end-long h = ap (λ (ms : List PlacedMark). length ms) (placed_end h)
