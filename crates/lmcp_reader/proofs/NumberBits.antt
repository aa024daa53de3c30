-- Numbers of the list and the bits that they are read from. Assumes nothing.
use Rattle.wire.proofs.Basics.{◌∙◌, sym, ◌≡◌, ap, subst, ℕ, ◌≤◌, ◌+◌, ◌<◌, ◌-◌, ◌*◌, ◌^◌, min, ℤ, negsuc, pow-le-pow_right, arith}
use lib.IntN.{◌-ℤ◌}
use lib.Pow.{pow_mono}
use mir.Syntax.{w64}
use mir.Val.{to_z, of_z, SFits}
use mir.ValLaws.{to_z_pos, to_z-of_z}
use Rattle.wire.specs.Signed.{signed}
use Rattle.wire.proofs.Signs.{halves, signed_low, to_z-signed, wider-high, from_end, from-end-fits}
use Rattle.lmcp.proofs.Values.{pow-bytes}

-- ---- a signed number that went through its bits

pub through : {z y : ℤ} → SFits w64 z → z ≡ y → to_z w64 (of_z w64 z) ≡ y
through {z} f e = to_z-of_z w64 z f ∙ e

-- ---- numbers of w bytes

pub plain-small : (w v : ℕ) → w ≤ 7 → v < 256 ^ w → v < 2 ^ 63
plain-small w v h l = let p : 256 ^ w ≤ 256 ^ 7 = pow-le-pow_right {n = 256} (omega arith) h in omega arith

-- the signed number of w bytes, by its distance from the end where it is negative
module _ (w v : ℕ) (least : 1 ≤ w) (most : w ≤ 8) (small : v < 256 ^ w) (h : ℕ) (half : h ≡ 2 ^ (8 * min w 8 - 1)) where
  half_is : h ≡ 2 ^ (8 * w - 1)
  half_is = let e : min w 8 ≡ w = omega arith in half ∙ ap (λ (n : ℕ). 2 ^ (8 * n - 1)) e

  pub half-small : h ≤ 2 ^ 63
  half-small =
      let k : 8 * w - 1 ≤ 63 = omega arith in
      let m : 2 ^ (8 * w - 1) ≤ 2 ^ 63 = pow_mono k in
      omega (arith, half_is)

  pub two-halves : v < h + h
  two-halves = omega (arith, half_is, halves (8 * w) (omega arith), pow-bytes w)

  pub low : v < h → to_z w64 v ≡ signed (8 * w) v
  low l = to_z_pos w64 v (omega (arith, half-small)) ∙ sym (signed_low (8 * w) v (omega (arith, half_is)))

  far : ℕ
  far = 2 ^ 64 - 2 ^ (8 * w) + v

  far-is : h ≤ v → (far < 2 ^ 64) × ((2 ^ 63 ≤ far) × (2 ^ 64 - 1 - far ≡ h - 1 - (v - h)))
  unfolding far
  far-is l =
      let k : 8 * w ≤ 64 = omega arith in
      let p : 2 ^ (8 * w) ≤ 2 ^ 64 = pow_mono k in
      let t = halves (8 * w) (omega arith) in
      (omega (arith, two-halves, half_is), (omega (arith, half-small, half_is), omega (arith, two-halves, half_is)))

  pub high : h ≤ v → negsuc 0 -ℤ to_z w64 (h - 1 - (v - h)) ≡ signed (8 * w) v
  unfolding far
  high l =
      let f = far-is l in
      ap (λ (n : ℕ). negsuc 0 -ℤ to_z w64 n) (sym f.1.1) ∙ from_end w64 far f.0 f.1.0 ∙ to_z-signed w64 far
      ∙ wider-high (8 * w) 64 v (omega arith) (omega arith) (omega (arith, half_is)) (omega (arith, two-halves, half_is, halves (8 * w) (omega arith)))

  pub high_fits : h ≤ v → SFits w64 (negsuc 0 -ℤ to_z w64 (h - 1 - (v - h)))
  high_fits l =
      let f = far-is l in
      subst (λ (n : ℕ). SFits w64 (negsuc 0 -ℤ to_z w64 n)) f.1.1 (from-end-fits w64 far f.0 f.1.0)
