-- The bytes of a number and of a header, and where they are laid. Assumes nothing.
use Rattle.wire.proofs.Basics.{◌∙◌, sym, ◌≡◌, ap, refl, ℕ, ◌≤◌, ◌+◌, ◌<◌, ◌-◌, suc, zero, ◌*◌, ◌^◌, ◌%◌, ◌/◌, List, [], ◌∷◌, ◌++◌, true, false, Bool, length, sets, eqb, ltb, ℤ, pos, negsuc, ltb-true}
use Rattle.wire.proofs.Basics.{pow-suc, arith}
use native.Mathlib.Nat.{mul_assoc, mul_comm, mul-sub}
use lib.Dec.{T}
use lib.Signed.{mag, lt_z}
use lib.Pow.{pow-add, pow_mono}
use Rattle.wire.specs.Choice.{pick}
use Rattle.wire.specs.Bytes.{bytes}
use Rattle.wire.specs.Overlay.{overlay}
use Rattle.wire.specs.Signed.{unsigned}
use Rattle.wire.proofs.Choices.{never}
use Rattle.wire.proofs.Numbers.{length-bytes}
use Rattle.wire.proofs.Overlays.{overlay-append, overlay-sets}
use Rattle.lmcp.specs.Limits.{series}
use Rattle.lmcp.specs.Table.{signed_kind, Table}
use Rattle.lmcp.specs.Value.{fits}
use Rattle.lmcp.specs.Write.{header}
use Rattle.lmcp.proofs.Values.{pow-bytes}

-- ---- the two halves of the signed numbers

pub negative-bits : (z : ℤ) (n : ℕ) → n ≡ mag z → lt_z z (pos 0) ≡ true → 18446744073709551615 - n ≡ unsigned 64 z
negative-bits (pos m) n e h = absurd (let l : m < 0 = ltb-true m 0 h in omega arith)
negative-bits (negsuc m) n e h = omega arith

pub positive-bits : (z : ℤ) (n : ℕ) → n ≡ mag z → lt_z z (pos 0) ≡ false → n ≡ unsigned 64 z
positive-bits (pos m) n e h = e
positive-bits (negsuc m) n e h = never refl h

-- ---- a negative number that fits

module _ (k w : ℕ) where
  pub fits_low : (n : ℕ) → fits k w (negsuc n) ≡ true → n < 2 ^ (8 * w)
  unfolding fits
  fits_low n f = by (eqb k signed_kind) f
    where
      by : (t : Bool) → pick t (ltb n (2 ^ (8 * w - 1))) false ≡ true → n < 2 ^ (8 * w)
      by true e =
          let l : 8 * w - 1 ≤ 8 * w = omega arith in
          let m : 2 ^ (8 * w - 1) ≤ 2 ^ (8 * w) = pow_mono l in
          omega (arith, ltb-true n (2 ^ (8 * w - 1)) e)
      by false e = never e refl

-- ---- the low bytes of the 64 bits

-- they do not change where a multiple of 256 ^ w is added
bytes_plus : (w v q : ℕ) → bytes w (v + 256 ^ w * q) ≡ bytes w v
unfolding bytes
bytes_plus zero v q = refl
bytes_plus (suc w) v q =
    let m : 256 ^ suc w * q ≡ 256 * (256 ^ w * q) = ap (λ (n : ℕ). n * q) (pow-suc 256 w ∙ mul_comm (256 ^ w) 256) ∙ mul_assoc 256 (256 ^ w) q in
    let d : (v + 256 ^ suc w * q) / 256 ≡ v / 256 + 256 ^ w * q = omega (arith, m) in
    let r : (v + 256 ^ suc w * q) % 256 ≡ v % 256 = omega (arith, m) in
    rw (d, r, bytes_plus w (v / 256) q) refl

-- 2 ^ 64 - 256 ^ w is one
gap : (w : ℕ) → w ≤ 8 → 2 ^ 64 - 256 ^ w ≡ 256 ^ w * (256 ^ (8 - w) - 1)
gap w h =
    let s : w + (8 - w) ≡ 8 = omega arith in
    let e : 256 ^ w * 256 ^ (8 - w) ≡ 2 ^ 64 = sym (pow-add 256 w (8 - w)) ∙ ap (λ (n : ℕ). 256 ^ n) s in
    let m : 256 ^ w * (256 ^ (8 - w) - 1) ≡ 256 ^ w * 256 ^ (8 - w) - 256 ^ w * 1 = mul-sub (256 ^ w) (256 ^ (8 - w)) 1 in
    omega (arith, m, e)

pub low-bytes : (k w : ℕ) (z : ℤ) → w ≤ 8 → fits k w z ≡ true → bytes w (unsigned 64 z) ≡ bytes w (unsigned (8 * w) z)
low-bytes k w (pos n) h f = refl
low-bytes k w (negsuc n) h f =
    let l : 8 * w ≤ 64 = omega arith in
    let p : 2 ^ (8 * w) ≤ 2 ^ 64 = pow_mono l in
    let b = pow-bytes w in
    let e : 2 ^ 64 - suc n ≡ (2 ^ (8 * w) - suc n) + (2 ^ 64 - 256 ^ w) = omega (arith, fits_low k w n f) in
    ap (bytes w) (e ∙ ap (λ (m : ℕ). (2 ^ (8 * w) - suc n) + m) (gap w h)) ∙ bytes_plus w (2 ^ (8 * w) - suc n) (256 ^ (8 - w) - 1)

-- ---- what is laid

pub laid-number : (out out' : List ℕ) (to w u v : ℕ) → out' ≡ overlay out to (bytes w u) → u ≡ v → out' ≡ sets out to (bytes w v)
laid-number out out' to w u v e f = e ∙ ap (λ (n : ℕ). overlay out to (bytes w n)) f ∙ overlay-sets out to (bytes w v)

one_byte : bytes 1 1 ≡ 1 ∷ []
unfolding bytes
one_byte = refl

pub laid-header : (T : Table) (n : ℕ) (o o1 o2 o3 o4 : List ℕ) (to : ℕ)
    → o1 ≡ overlay o to (bytes 1 1) → o2 ≡ overlay o1 (to + 1) (bytes 8 series) → o3 ≡ overlay o2 (to + 9) (bytes 4 n) → o4 ≡ overlay o3 (to + 13) (bytes 2 T.version)
    → o4 ≡ overlay o to (header T n)
unfolding header
laid-header T n o o1 o2 o3 o4 to e1 e2 e3 e4 =
    let v = T.version in
    let p1 : to + 1 ≡ to + length (bytes 1 1) = omega (arith, length-bytes 1 1) in
    let p9 : to + 9 ≡ to + length (bytes 1 1) + length (bytes 8 series) = omega (arith, length-bytes 1 1, length-bytes 8 series) in
    let p13 : to + 13 ≡ to + length (bytes 1 1) + length (bytes 8 series) + length (bytes 4 n) = omega (arith, length-bytes 1 1, length-bytes 8 series, length-bytes 4 n) in
    let a1 = overlay-append o to (bytes 1 1) (bytes 8 series ++ (bytes 4 n ++ bytes 2 v)) in
    let a2 = overlay-append (overlay o to (bytes 1 1)) (to + length (bytes 1 1)) (bytes 8 series) (bytes 4 n ++ bytes 2 v) in
    let a3 = overlay-append (overlay (overlay o to (bytes 1 1)) (to + length (bytes 1 1)) (bytes 8 series)) (to + length (bytes 1 1) + length (bytes 8 series)) (bytes 4 n) (bytes 2 v) in
    e4 ∙ rw (e3, e2, e1, p13, p9, p1) (sym a3 ∙ sym a2 ∙ sym a1) ∙ ap (λ (x : List ℕ). overlay o to (x ++ (bytes 8 series ++ (bytes 4 n ++ bytes 2 v)))) one_byte

pub zero-byte : bytes 1 0 ≡ 0 ∷ []
unfolding bytes
zero-byte = refl
