-- Tests on numbers below a bound, and the first element that passes one. Nothing here knows of datagrams. Definitions only.
use Rattle.std.specs.Prelude.{Bool, true, false, ◌&&◌, List, [], ◌∷◌, ℕ, zero, suc, ◌+◌}
use Rattle.std.proofs.Math.Option.{Option, none, some, map}
use Rattle.wire.specs.Choice.{pick}

-- every number below n passes
abbrev pub all_below : ℕ → (ℕ → Bool) → Bool
all_below zero p = true
all_below (suc n) p = p n && all_below n p

abbrev pub one : Bool → ℕ
one true = 1
one false = 0

-- how many numbers below n pass
abbrev pub count : (ℕ → Bool) → ℕ → ℕ
count p zero = 0
count p (suc n) = one (p n) + count p n

-- the place of the first element that passes
abbrev pub first {ℓ} : {A : Type ℓ} → (A → Bool) → List A → Option ℕ
first p [] = none
first p (x ∷ xs) = pick (p x) (some 0) (map suc (first p xs))
