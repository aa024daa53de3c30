-- What a search of the slots finds. Assumes nothing.
use Rattle.wire.proofs.Basics.{refl, ◌≤◌, sym, ◌≡◌, ℕ, ◌<◌, suc, zero, true, false, Bool, ℕ_discrete, arith}
use Rattle.std.specs.Prelude.{Option, Some, None, MatchOption}
use Rattle.slots.specs.Words.{first_below}

module _ (p : ℕ → Bool) where
  pub first-here : (i n : ℕ) → i < n → first_below p i ≡ None → p i ≡ true → first_below p n ≡ Some i
  first-here i zero h a e = absurd (omega arith)
  first-here i (suc n) h a e = elim (ℕ_discrete n i) [ yes q ↦ rw q (rw (a, e)) | no q ↦ rw (first-here i n (omega arith) a e) ]

pub none-below : (p : ℕ → Bool) (n : ℕ) → ((k : ℕ) → k < n → p k ≡ false) → first_below p n ≡ None
none-below p zero h = refl
none-below p (suc n) h = rw (none-below p n (λ i k. h i (omega arith)), h n (omega arith)) refl

-- what a search of a range finds is the first that passes
pub find-first : (p : ℕ → Bool) (n : ℕ) (r : Option ℕ)
    → MatchOption r ((k : ℕ) → 0 ≤ k → k < n → p k ≡ false) (λ i. (0 ≤ i) × (i < n) × (p i ≡ true) × ((k : ℕ) → 0 ≤ k → k < i → p k ≡ false))
    → r ≡ first_below p n
find-first p n None h = sym (none-below p n (λ k l. h k (omega arith) l))
find-first p n (Some i) h = sym (first-here p i n h.1 (none-below p i (λ k l. h.3 k (omega arith) l)) h.2)
