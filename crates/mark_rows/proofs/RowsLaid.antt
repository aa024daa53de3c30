-- Rows laid one behind the other. Assumes nothing.
use Rattle.wire.proofs.Basics.{◌∙◌, sym, ◌≡◌, ap, refl, ℕ, ◌≤◌, ◌+◌, suc, ◌*◌, ◌%◌, List, [], ◌∷◌, ◌++◌, true, false, Bool, not, inl, inr, length, length-append, set, sets, eqb, ℤ, pos, eq-eqb}
use Rattle.wire.proofs.Basics.{ne_eqb, eqb-true, eqb-false, arith}
use Rattle.wire.specs.Choice.{pick}
use Rattle.wire.proofs.Choices.{either}
use Rattle.lmcp.specs.Spelled.{Spot, nowhere, spot}
use Rattle.sorted_set.proofs.Members.{gather_append}
use Rattle.count_rules.specs.Marks.{at, mark_at}
use Rattle.count_rules.specs.Keys.{span}
use Rattle.mark_rows.specs.Placed.{Depth, unmeasured, measured, PlacedMark, signed_at, placed_at}
use Rattle.mark_rows.specs.Rows.{flag, place_numbers_lem, depth_numbers, row_of, rows_of}
use Rattle.mark_rows.specs.InsideRows.{row_at, LaysRows}

-- one piece after the other is both at once
sets-append : (l : List ℤ) (q : ℕ) (s t : List ℤ) → sets l q (s ++ t) ≡ sets (sets l q s) (q + length s) t
sets-append l q [] t = let e : q ≡ q + 0 = omega arith in ap (λ (k : ℕ). sets l k t) e
sets-append l q (z ∷ s) t =
    let e : suc q + length s ≡ q + suc (length s) = omega arith in
    sets-append (set l q z) (suc q) s t ∙ ap (λ (k : ℕ). sets (sets (set l q z) (suc q) s) k t) e

-- ---- a row has eight numbers

place-long : (p : Spot) → length (place_numbers_lem p) ≡ 4
place-long nowhere = refl
place-long (spot lat lon height) = refl

depth-long : (d : Depth) → length (depth_numbers d) ≡ 2
depth-long unmeasured = refl
depth-long (measured d) = refl

row-long : (m : PlacedMark) → length (row_of m) ≡ 8
row-long m = omega (arith, length-append (place_numbers_lem m.place) (depth_numbers m.depth), place-long m.place, depth-long m.depth)

rows_long : (ms : List PlacedMark) → length (rows_of ms) ≡ 8 * length ms
rows_long [] = refl
rows_long (m ∷ ms) = omega (arith, length-append (row_of m) (rows_of ms), row-long m, rows_long ms)

-- ---- one element: null, or a mark

module _ (two : Bool) (l : List ℤ) where
  pub null-none : at l 0 ≡ 0 → placed_at two l ≡ []
  unfolding placed_at mark_at
  null-none e = rw (eq-eqb (at l 0) 0 e)

  pub mark-one : (at l 0 ≡ 0 → ⊥) → length (placed_at two l) ≡ 1
  unfolding placed_at mark_at
  mark-one n = rw (ne_eqb (at l 0) 0 n)

  pub at_most_one : length (placed_at two l) ≤ 1
  at_most_one = elim (either (eqb (at l 0) 0)) [
    | inl e ↦ omega (arith, ap (λ (ms : List PlacedMark). length ms) (null-none (eqb-true (at l 0) 0 e)))
    | inr e ↦ omega (arith, mark-one (eqb-false (at l 0) 0 e))
  ]

  pub mark-row : (at l 0 ≡ 0 → ⊥) → rows_of (placed_at two l) ≡ row_at two l
  unfolding placed_at mark_at
  mark-row n = rw (ne_eqb (at l 0) 0 n) (go (eqb (at l 3) 0) two)
    where
      go : (b t : Bool)
          → pos (at l 1 % span) ∷ flag (not (eqb (at l 2) 0)) ∷ ((place_numbers_lem (pick b nowhere (spot (signed_at l 4) (signed_at l 5) (signed_at l 6))) ++ depth_numbers (pick t (measured (signed_at l (pick b 4 7))) unmeasured)) ++ [])
          ≡ pos (at l 1 % span) ∷ flag (not (eqb (at l 2) 0)) ∷ flag (not b) ∷ pick (not b) (signed_at l 4) (pos 0) ∷ pick (not b) (signed_at l 5) (pos 0)
          ∷ pick (not b) (signed_at l 6) (pos 0) ∷ flag t ∷ pick t (signed_at l (pick (not b) 7 4)) (pos 0) ∷ []
      go true true = refl
      go true false = refl
      go false true = refl
      go false false = refl

  pub null-laid : (rows : List ℤ) (q : ℕ) → at l 0 ≡ 0 → LaysRows (placed_at two l) rows q rows q
  null-laid rows q e = rw (null-none e) (record { laid = refl; next = omega arith })

  pub mark-laid : (rows rows' row : List ℤ) (q : ℕ) → (at l 0 ≡ 0 → ⊥) → row ≡ row_at two l → rows' ≡ sets rows q row → LaysRows (placed_at two l) rows q rows' (q + 8)
  mark-laid rows rows' row q n e f = record { laid = f ∙ ap (sets rows q) (e ∙ sym (mark-row n)); next = omega (arith, mark-one n) }

-- ---- marks ms, then marks ns

module _ (ms ns : List PlacedMark) (rows : List ℤ) (q : ℕ) (rows' : List ℤ) (r : ℕ) (h : LaysRows ms rows q rows' r) where
  pub then-laid : sets rows' r (rows_of ns) ≡ sets rows q (rows_of (ms ++ ns))
  then-laid =
      let n : r ≡ q + length (rows_of ms) = omega (arith, h.next, rows_long ms) in
      (λ i. sets (h.laid i) (n i) (rows_of ns))
      ∙ sym (ap (sets rows q) (gather_append row_of ms ns) ∙ sets-append rows q (rows_of ms) (rows_of ns))
