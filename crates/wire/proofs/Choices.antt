-- Laws of truth values and of choices by them. Assumes nothing.
use Rattle.wire.proofs.Basics.{◌≡◌, refl, ℕ, true, false, Bool, ◌&&◌, ◌||◌, inl, inr, ◌⊎◌, arith}
use Rattle.wire.specs.Choice.{pick}

pub either : (b : Bool) → (b ≡ true) ⊎ (b ≡ false)
either true = inl refl
either false = inr refl

-- nothing is both true and false
pub never {ℓ} : {X : Type ℓ} {b : Bool} → b ≡ true → b ≡ false → X
never {b = b} p q = let z : ◌≡◌ {A = ℕ} 0 1 = cc in absurd (let h : ⊥ = omega arith in h)

-- nor is 0 what 1 is
pub zero-is-one {ℓ} : {X : Type ℓ} → ◌≡◌ {A = ℕ} 0 1 → X
zero-is-one z = absurd (let h : ⊥ = omega arith in h)

pub and_l : (a b : Bool) → (a && b) ≡ true → a ≡ true
and_l true b e = refl
and_l false b e = e

pub and_r : (a b : Bool) → (a && b) ≡ true → b ≡ true
and_r true b e = e
and_r false b e = never e refl

pub and-of : (a b : Bool) → a ≡ true → b ≡ true → (a && b) ≡ true
and-of a b p q = rw (p, q)

pub and-false : (b : Bool) → (b && false) ≡ false
and-false true = refl
and-false false = refl

pub and-true : (b : Bool) → (b && true) ≡ b
and-true true = refl
and-true false = refl

pub or_l : (a b : Bool) → (a || b) ≡ false → a ≡ false
or_l true b e = e
or_l false b e = refl

pub or_r : (a b : Bool) → (a || b) ≡ false → b ≡ false
or_r true b e = never refl e
or_r false b e = e

pub or-false : (b : Bool) → (b || false) ≡ b
or-false true = refl
or-false false = refl

pub or-of-right : (a : Bool) {b : Bool} → b ≡ true → (a || b) ≡ true
or-of-right true e = refl
or-of-right false e = e

pub and-five : (a b c d e : Bool) → a ≡ true → b ≡ true → c ≡ true → d ≡ true → e ≡ true → (a && (b && (c && (d && e)))) ≡ true
and-five a b c d e p q r s t = rw (p, q, r, s, t)

-- what holds of both sides holds of the choice
pub pick_all {ℓ} : {X : Type ℓ} (P : X → Type 0) (b : Bool) {x y : X} → (b ≡ true → P x) → (b ≡ false → P y) → P (pick b x y)
pick_all P true f g = f refl
pick_all P false f g = g refl
