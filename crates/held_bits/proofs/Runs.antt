-- Laws of a test on every number below a bound: one number more, and a run of numbers more. Assumes nothing.
use Rattle.wire.proofs.Basics.{◌≡◌, refl, ℕ, ◌+◌, suc, zero, true, false, Bool, ◌&&◌, add-one, arith}
use Rattle.steps.specs.Search.{all_below}

and-and : (a b c : Bool) → (a && (b && c)) ≡ ((a && b) && c)
and-and true b c = refl
and-and false b c = refl

module _ (p : ℕ → Bool) where
  pub all_more : (i : ℕ) → all_below i p ≡ true → p i ≡ true → all_below (i + 1) p ≡ true
  all_more i a e = rw add-one (rw (a, e))

  -- m numbers from j on
  pub all_split : (j m : ℕ) → all_below (j + m) p ≡ (all_below m (λ b. p (j + b)) && all_below j p)
  all_split j zero = let e : j + 0 ≡ j = omega arith in rw e refl
  all_split j (suc m) =
      let e : j + suc m ≡ suc (j + m) = omega arith in
      rw (e, all_split j m) (and-and (p (j + m)) (all_below m (λ b. p (j + b))) (all_below j p))
