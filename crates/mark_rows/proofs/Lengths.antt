-- How many numbers an element takes, as the code has it. Assumes nothing.
use Rattle.wire.proofs.Basics.{◌∙◌, ◌≡◌, ap, refl, ℕ, ◌≤◌, ◌+◌, List, true, false, Bool, not, eqb, ℤ, eq-eqb, ne_eqb, arith}
use Rattle.wire.specs.Choice.{pick}
use Rattle.count_rules.specs.Marks.{at, mark_length}

pub depth-most : (b : Bool) → pick b 7 4 ≤ 7
depth-most true = omega arith
depth-most false = omega arith

module _ (two : Bool) (l : List ℤ) where
  pub length-null : at l 0 ≡ 0 → 1 ≡ mark_length two l
  unfolding mark_length
  length-null e = rw (eq-eqb (at l 0) 0 e)

  module _ (some : at l 0 ≡ 0 → ⊥) (n : ℕ) (q : n ≡ pick (not (eqb (at l 3) 0)) 7 4) where
    other : (b : Bool) → ◌≡◌ {A = ℕ} (pick (not b) 7 4) (pick b 4 7)
    other true = refl
    other false = refl

    pub length-one : two ≡ false → n ≡ mark_length two l
    unfolding mark_length
    length-one e = rw (ne_eqb (at l 0) 0 some, e) (let z : pick (eqb (at l 3) 0) 4 7 ≡ pick (eqb (at l 3) 0) 4 7 + 0 = omega arith in q ∙ (other (eqb (at l 3) 0) ∙ z))

    pub length_two : two ≡ true → n + 1 ≡ mark_length two l
    unfolding mark_length
    length_two e = rw (ne_eqb (at l 0) 0 some, e) (ap (λ (k : ℕ). k + 1) (q ∙ other (eqb (at l 3) 0)))
