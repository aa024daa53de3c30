-- Laws of the signed numbers, each once over the width b, and the tie to the numbers of i8 to i64 in the code.
use Rattle.wire.proofs.Basics.{◌∙◌, sym, ◌≡◌, ap, refl, subst, ℕ, ◌≤◌, ◌+◌, ◌<◌, ◌-◌, suc, zero, ◌*◌, ◌^◌, true, false, Bool, ltb, ℤ, pos, negsuc, nat_abs, le-ltb, lt-ltb, ltb-false, ltb-true}
use Rattle.wire.proofs.Basics.{zero-add, pow-suc, arith}
use lib.Pow.{pow_mono}
use lib.IntN.{◌-ℤ◌}
use lib.Signed.{mag, lt_z, non_neg}
use lib.Dec.{T}
use mir.Syntax.{Width, w8, w16, w32, w64, w128}
use mir.Val.{to_z, of_z, sel, bits, hbits, SFits, Fits}
use mir.ValLaws.{to_z_pos, to_z-neg, to_z-Fits, to_z-of_z, pow-bits, half_full}
use Rattle.wire.specs.Choice.{pick}
use Rattle.wire.specs.Signed.{signed, unsigned}
use Rattle.wire.specs.Inside.{Within}

-- a power is two of the power before it
pub halves : (b : ℕ) → 1 ≤ b → 2 ^ b ≡ 2 ^ (b - 1) + 2 ^ (b - 1)
halves b h =
    let e : b ≡ suc (b - 1) = omega arith in
    let p : 2 ^ suc (b - 1) ≡ 2 ^ (b - 1) * 2 = pow-suc 2 (b - 1) in
    ap (λ (n : ℕ). 2 ^ n) e ∙ p ∙ (omega arith)

-- ---- the two halves

pub signed_low : (b u : ℕ) → u < 2 ^ (b - 1) → signed b u ≡ pos u
signed_low b u h = rw (lt-ltb u (2 ^ (b - 1)) h) refl

pub signed_high : (b u : ℕ) → 2 ^ (b - 1) ≤ u → signed b u ≡ negsuc (2 ^ b - suc u)
signed_high b u h = rw (le-ltb u (2 ^ (b - 1)) h) refl

-- ---- round trips and ranges

pub unsigned_signed : (b u : ℕ) → u < 2 ^ b → unsigned b (signed b u) ≡ u
unsigned_signed b u h = by-test (ltb u (2 ^ (b - 1)))
  where
    by-test : (t : Bool) → unsigned b (pick t (pos u) (negsuc (2 ^ b - suc u))) ≡ u
    by-test true = refl
    by-test false = omega arith

pub signed-within : (b u : ℕ) → 1 ≤ b → u < 2 ^ b → Within b (signed b u)
signed-within b u l h = by-test (ltb u (2 ^ (b - 1))) refl
  where
    by-test : (t : Bool) → ltb u (2 ^ (b - 1)) ≡ t → Within b (pick t (pos u) (negsuc (2 ^ b - suc u)))
    by-test true e = ltb-true u (2 ^ (b - 1)) e
    by-test false e = omega (arith, halves b l, ltb-false u (2 ^ (b - 1)) e)

pub unsigned-lt : (b : ℕ) (z : ℤ) → 1 ≤ b → Within b z → unsigned b z < 2 ^ b
unsigned-lt b (pos n) l h = omega (arith, halves b l)
unsigned-lt b (negsuc n) l h = omega (arith, halves b l)

pub signed-unsigned : (b : ℕ) (z : ℤ) → 1 ≤ b → Within b z → signed b (unsigned b z) ≡ z
signed-unsigned b (pos n) l h = signed_low b n h
signed-unsigned b (negsuc n) l h =
    signed_high b (2 ^ b - suc n) (omega (arith, halves b l))
    ∙ ap negsuc (omega (arith, halves b l))

-- no two signed numbers of b bits have the same bits, and no two runs of b bits are the same number
pub unsigned-once : (b : ℕ) (y z : ℤ) → 1 ≤ b → Within b y → Within b z → unsigned b y ≡ unsigned b z → y ≡ z
unsigned-once b y z l hy hz e = sym (signed-unsigned b y l hy) ∙ ap (signed b) e ∙ signed-unsigned b z l hz

pub signed-once : (b u v : ℕ) → u < 2 ^ b → v < 2 ^ b → signed b u ≡ signed b v → u ≡ v
signed-once b u v hu hv e = sym (unsigned_signed b u hu) ∙ ap (unsigned b) e ∙ unsigned_signed b v hv

-- ---- a wider width c

pub within_wider : (b c : ℕ) (z : ℤ) → b ≤ c → Within b z → Within c z
within_wider b c z l h = let m : 2 ^ (b - 1) ≤ 2 ^ (c - 1) = pow_mono (omega arith) in omega arith

-- at c bits the high half of b bits is moved up to the end
pub wider-high : (b c u : ℕ) → 1 ≤ b → b ≤ c → 2 ^ (b - 1) ≤ u → u < 2 ^ b → signed c (2 ^ c - 2 ^ b + u) ≡ signed b u
wider-high b c u l m h k =
    let p : 2 ^ b ≤ 2 ^ c = pow_mono m in
    let q : 2 ^ (b - 1) ≤ 2 ^ (c - 1) = pow_mono (omega arith) in
    signed_high c (2 ^ c - 2 ^ b + u) (omega (arith, halves b l, halves c (omega arith)))
    ∙ ap negsuc (omega arith)
    ∙ sym (signed_high b u h)

pub wider-low : (b c u : ℕ) → b ≤ c → u < 2 ^ (b - 1) → signed c u ≡ signed b u
wider-low b c u m h =
    let q : 2 ^ (b - 1) ≤ 2 ^ (c - 1) = pow_mono (omega arith) in
    signed_low c u (omega arith) ∙ sym (signed_low b u h)

-- ---- the code's signed numbers, at each of its widths

picked : (t : Bool) (y z : ℤ) → sel t y z ≡ pick t y z
picked true y z = refl
picked false y z = refl

half-bits : (w : Width) → hbits w ≡ bits w - 1
half-bits w8 = refl
half-bits w16 = refl
half-bits w32 = refl
half-bits w64 = refl
half-bits w128 = refl

pub to_z-signed : (w : Width) (u : ℕ) → to_z w u ≡ signed (bits w) u
to_z-signed w u =
    ap (λ (h : ℕ). sel (ltb u (2 ^ h)) (pos u) (negsuc (2 ^ bits w - suc u))) (half-bits w)
    ∙ picked (ltb u (2 ^ (bits w - 1))) (pos u) (negsuc (2 ^ bits w - suc u))

pub of_z-unsigned : (w : Width) (z : ℤ) → of_z w z ≡ unsigned (bits w) z
of_z-unsigned w (pos n) = refl
of_z-unsigned w (negsuc n) = refl

pub sfits-within : (w : Width) (z : ℤ) → SFits w z → Within (bits w) z
sfits-within w z f = subst (λ (h : ℕ). mag z < 2 ^ h) (half-bits w) f.sfits

pub within-sfits : (w : Width) (z : ℤ) → Within (bits w) z → SFits w z
within-sfits w z h = record { sfits = subst (λ (k : ℕ). mag z < 2 ^ k) (sym (half-bits w)) h }

-- How code takes a number apart with no sum that wraps: a number below 0 is less one, less what is left up to the
-- highest number of the width.

minus-one-pos : (k : ℕ) → negsuc 0 -ℤ pos k ≡ negsuc k
minus-one-pos zero = refl
minus-one-pos (suc n) = ap (λ (m : ℕ). negsuc (suc m)) (zero-add n)

minus-one_neg : (n : ℕ) → negsuc 0 -ℤ negsuc n ≡ pos n
minus-one_neg n = rw (le-ltb (suc n) 1 (omega arith)) (ap pos (omega arith))

-- from bits in the high half
pub from_end : (w : Width) (u : ℕ) → u < 2 ^ bits w → 2 ^ hbits w ≤ u → negsuc 0 -ℤ to_z w (2 ^ bits w - 1 - u) ≡ to_z w u
from_end w u h l =
    let d : 2 ^ bits w ≡ 2 ^ hbits w * 2 = pow-bits w in
    let e : 2 ^ bits w - suc (2 ^ bits w - 1 - u) ≡ u = omega arith in
    ap (λ (z : ℤ). negsuc 0 -ℤ z) (to_z_pos w (2 ^ bits w - 1 - u) (omega arith))
    ∙ minus-one-pos (2 ^ bits w - 1 - u)
    ∙ sym (to_z-neg w (2 ^ bits w - 1 - u) (omega arith))
    ∙ ap (to_z w) e

pub from-end-fits : (w : Width) (u : ℕ) → u < 2 ^ bits w → 2 ^ hbits w ≤ u → SFits w (negsuc 0 -ℤ to_z w (2 ^ bits w - 1 - u))
from-end-fits w u h l = subst (λ (z : ℤ). SFits w z) (sym (from_end w u h l)) (to_z-Fits w u (record { fits = h }))

-- to bits: z is below 0, and y is less one less z
pub record Below (w : Width) (z y : ℤ) : Type 0 where
  pub sfits : SFits w y
  pub count : T (non_neg y)
  pub small : nat_abs y < 2 ^ hbits w
  pub size : nat_abs y + 1 ≡ nat_abs z
  pub end : 2 ^ bits w - 1 - nat_abs y ≡ of_z w z

pub below : (w : Width) (z : ℤ) → SFits w z → lt_z z (pos 0) ≡ true → Below w z (negsuc 0 -ℤ z)
below w (pos n) f t = absurd (let h : n < 0 = ltb-true n 0 t in omega arith)
below w (negsuc n) f t =
    subst (λ (y : ℤ). Below w (negsuc n) y) (sym (minus-one_neg n))
    (record { sfits = record { sfits = f.sfits }; count = tt; small = f.sfits; size = omega arith; end = omega arith })

-- to bits: z is not below 0
pub record Above (w : Width) (z : ℤ) : Type 0 where
  pub count : T (non_neg z)
  pub fits : Fits w (nat_abs z)
  pub bits : nat_abs z ≡ of_z w z

pub above : (w : Width) (z : ℤ) → SFits w z → lt_z z (pos 0) ≡ false → Above w z
above w (pos n) f t = record { count = tt; fits = record { fits = half_full w f.sfits }; bits = refl }
above w (negsuc n) f t = absurd (let z : ◌≡◌ {A = ℕ} 0 1 = cc in omega arith)

-- The negation of z below 0, as code computes it with no number that does not fit: m is less one less z, each read back from its bits, and
-- one more than m is the answer, at the lowest number too.
pub record Negates (w : Width) (z m : ℤ) : Type 0 where
  pub fits : SFits w (negsuc 0 -ℤ to_z w (of_z w z))
  pub count : T (non_neg m) × Fits w (nat_abs m)
  pub next : Fits w (nat_abs m + 1)
  pub size : nat_abs m + 1 ≡ nat_abs z

pub negates : (w : Width) (z : ℤ) → SFits w z → lt_z z (pos 0) ≡ true → Negates w z (to_z w (of_z w (negsuc 0 -ℤ to_z w (of_z w z))))
negates w z f t =
    let b = below w z f t in
    let same : to_z w (of_z w z) ≡ z = to_z-of_z w z f in
    let made : to_z w (of_z w (negsuc 0 -ℤ to_z w (of_z w z))) ≡ negsuc 0 -ℤ z =
    ap (λ (y : ℤ). to_z w (of_z w (negsuc 0 -ℤ y))) same ∙ to_z-of_z w (negsuc 0 -ℤ z) b.sfits in
    subst (λ (m : ℤ). Negates w z m) (sym made)
    (record {
      fits = subst (λ (y : ℤ). SFits w (negsuc 0 -ℤ y)) (sym same) b.sfits;
      count = (b.count, record { fits = half_full w b.small });
      next = record { fits = let d : 2 ^ bits w ≡ 2 ^ hbits w * 2 = pow-bits w in omega (arith, b.small) };
      size = b.size;
    })

-- z not below 0, read back from its bits
pub counts : (w : Width) (z : ℤ) → SFits w z → lt_z z (pos 0) ≡ false → T (non_neg (to_z w (of_z w z))) × Fits w (nat_abs (to_z w (of_z w z)))
counts w z f t = let a = above w z f t in subst (λ (y : ℤ). T (non_neg y) × Fits w (nat_abs y)) (sym (to_z-of_z w z f)) (a.count, a.fits)
