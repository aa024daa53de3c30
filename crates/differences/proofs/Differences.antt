-- What a difference says, by its sign, and how it is computed. Assumes nothing.
use Rattle.wire.proofs.Basics.{◌∙◌, sym, ◌≡◌, ap, refl, ℕ, ◌≤◌, ◌+◌, ◌<◌, ◌-◌, suc, zero, ◌^◌, ◌%◌, List, ◌∷◌, true, false, Bool, leb, ℤ, pos, negsuc, nat_abs, le-leb, ltb-true, lt-leb, leb-true}
use Rattle.wire.proofs.Basics.{arith}
use lib.Signed.{lt_z}
use Rattle.wire.specs.Choice.{pick}
use Rattle.wire.specs.Signed.{signed, unsigned}
use Rattle.wire.proofs.Signs.{signed_low, signed_high, unsigned_signed}
use Rattle.differences.specs.Limits.{most_late}
use Rattle.differences.specs.Noted.{Noted, forward, same, late, restarted}
use Rattle.differences.specs.Difference.{difference, told}

pub told-late : (m : ℕ) (d : ℤ) → lt_z d (pos 0) ≡ true → nat_abs d ≤ most_late → told m d ≡ late (nat_abs d)
told-late m (pos n) t h = absurd (let h : n < 0 = ltb-true n 0 t in omega arith)
told-late m (negsuc n) t h = rw (le-leb (suc n) most_late h)

pub told-restarted : (m : ℕ) (d : ℤ) → lt_z d (pos 0) ≡ true → most_late < nat_abs d → told m d ≡ restarted m
told-restarted m (pos n) t h = absurd (let h : n < 0 = ltb-true n 0 t in omega arith)
told-restarted m (negsuc n) t h = rw (lt-leb (suc n) most_late h)

pub told_same : (m : ℕ) (d : ℤ) → nat_abs d ≡ 0 → told m d ≡ same
told_same m (pos zero) e = refl
told_same m (pos (suc n)) e = absurd (let h : suc n ≡ 0 = e in omega arith)
told_same m (negsuc n) e = absurd (let h : suc n ≡ 0 = e in omega arith)

pub told-forward : (m : ℕ) (d : ℤ) → lt_z d (pos 0) ≡ false → (nat_abs d ≡ 0 → ⊥) → told m d ≡ forward (nat_abs d - 1)
told-forward m (pos zero) t e = absurd (e refl)
told-forward m (pos (suc n)) t e = ap forward (omega arith)
told-forward m (negsuc n) t e = absurd (let z : ◌≡◌ {A = ℕ} 0 1 = cc in omega arith)

-- the one number that last added to wraps back to new
pub wraps-back : (new last u : ℕ) → new < 2 ^ 32 → last < 2 ^ 32 → u < 2 ^ 32 → (u + last) % 2 ^ 32 ≡ new → signed 32 u ≡ difference new last
wraps-back new last u hn hl hu e = ap (signed 32) (let p : u ≡ (new + (2 ^ 32 - last)) % 2 ^ 32 = omega arith in p)

-- what a number that lies back says: Late by 1 to 1,024, and only then
pub record LateBy (by : ℕ) : Type 0 where
  pub some : 1 ≤ by
  pub most : by ≤ most_late

below-late : (t : Bool) (m n by : ℕ) → leb (suc n) most_late ≡ t → pick t (late (suc n)) (restarted m) ≡ late by → LateBy by
below-late true m n by h e = let p : suc n ≡ by = cc in record { some = omega arith; most = omega (arith, leb-true (suc n) most_late h) }
below-late false m n by h e = absurd (let z : ◌≡◌ {A = ℕ} 0 1 = cc in omega arith)

pub late-range : (m : ℕ) (d : ℤ) (by : ℕ) → told m d ≡ late by → LateBy by
late-range m (pos zero) by e = absurd (let z : ◌≡◌ {A = ℕ} 0 1 = cc in omega arith)
late-range m (pos (suc n)) by e = absurd (let z : ◌≡◌ {A = ℕ} 0 1 = cc in omega arith)
late-range m (negsuc n) by e = below-late (leb (suc n) most_late) m n by refl e

-- a restart is told with the new number
below-restarted : (t : Bool) (m n k : ℕ) → pick t (late (suc n)) (restarted m) ≡ restarted k → k ≡ m
below-restarted true m n k e = absurd (let z : ◌≡◌ {A = ℕ} 0 1 = cc in omega arith)
below-restarted false m n k e = cc

pub restarted-number : (m : ℕ) (d : ℤ) (k : ℕ) → told m d ≡ restarted k → k ≡ m
restarted-number m (pos zero) k e = absurd (let z : ◌≡◌ {A = ℕ} 0 1 = cc in omega arith)
restarted-number m (pos (suc n)) k e = absurd (let z : ◌≡◌ {A = ℕ} 0 1 = cc in omega arith)
restarted-number m (negsuc n) k e = below-restarted (leb (suc n) most_late) m n k e

-- a counter that falls back by more than 1,024, and by no more than half of its range, restarted there
pub back_restarts : (s d : ℕ) → s < 2 ^ 32 → most_late < d → d ≤ 2 ^ 31
    → let n : ℕ = (s + (2 ^ 32 - d)) % 2 ^ 32 in told n (difference n s) ≡ restarted n
back_restarts s d h l k =
    let n : ℕ = (s + (2 ^ 32 - d)) % 2 ^ 32 in
    let u : (n + (2 ^ 32 - s)) % 2 ^ 32 ≡ 2 ^ 32 - d = omega arith in
    ap (told n) (ap (signed 32) u ∙ signed_high 32 (2 ^ 32 - d) (omega arith))
    ∙ told-restarted n (negsuc (2 ^ 32 - suc (2 ^ 32 - d))) refl (omega arith)

-- ---- a step forward

-- Forward says by how much
below-forward : (t : Bool) (k n m : ℕ) → pick t (late (suc n)) (restarted k) ≡ forward m → ⊥
below-forward true k n m e = let z : ◌≡◌ {A = ℕ} 0 1 = cc in omega arith
below-forward false k n m e = let z : ◌≡◌ {A = ℕ} 0 1 = cc in omega arith

forward-told : (k : ℕ) (d : ℤ) (m : ℕ) → told k d ≡ forward m → d ≡ pos (suc m)
forward-told k (pos zero) m e = absurd (let z : ◌≡◌ {A = ℕ} 0 1 = cc in omega arith)
forward-told k (pos (suc n)) m e = cc
forward-told k (negsuc n) m e = absurd (below-forward (leb (suc n) most_late) k n m e)

-- so the counter went one further than is missing
pub forward-distance : (n s m : ℕ) → told n (difference n s) ≡ forward m → (n + (2 ^ 32 - s)) % 2 ^ 32 ≡ suc m
forward-distance n s m e =
    sym (unsigned_signed 32 ((n + (2 ^ 32 - s)) % 2 ^ 32) (omega arith)) ∙ ap (unsigned 32) (forward-told n (difference n s) m e)

-- a step forward is one more than the numbers that it leaves out
pub step-told : (s d : ℕ) → s < 2 ^ 32 → 1 ≤ d → d < 2 ^ 31 → let n : ℕ = (s + d) % 2 ^ 32 in told n (difference n s) ≡ forward (d - 1)
step-told s d h l k =
    let u : ((s + d) % 2 ^ 32 + (2 ^ 32 - s)) % 2 ^ 32 ≡ suc (d - 1) = omega arith in
    ap (told ((s + d) % 2 ^ 32)) (ap (signed 32) u ∙ signed_low 32 (suc (d - 1)) (omega arith))

pub cons-eq : {x : Noted} {a b : List Noted} {y : Noted} → ◌≡◌ {A = List Noted} (x ∷ a) (y ∷ b) → (x ≡ y) × (a ≡ b)
cons-eq e = (cc, cc)
