-- The low bits of a number: it is a multiple of a power of two exactly when they are 0. Assumes nothing.
use Rattle.wire.proofs.Basics.{◌∙◌, sym, ◌≡◌, ap, ℕ, ◌+◌, ◌<◌, suc, zero, ◌*◌, ◌^◌, ◌%◌, ◌/◌, one-mul, zero-mul, ℕ_discrete, arith}
use lib.Pow.{mod-pow-add, pow_pos}

-- one bit more
one_more : (u x : ℕ) → x % 2 ^ suc u ≡ (x / 2 ^ u % 2) * 2 ^ u + x % 2 ^ u
one_more u x = ap (λ (n : ℕ). x % 2 ^ n) (let e : suc u ≡ 1 + u = omega arith in e) ∙ mod-pow-add x 1 u

pub record Top (u x : ℕ) : Type 0 where
  pub bit : x / 2 ^ u % 2 ≡ 0
  pub rest : x % 2 ^ u ≡ 0

top : (u x : ℕ) → x % 2 ^ suc u ≡ 0 → Top u x
top u x h = elim (ℕ_discrete (x / 2 ^ u % 2) 0) [
  | yes e ↦
      let q : (x / 2 ^ u % 2) * 2 ^ u + x % 2 ^ u ≡ 0 = sym (one_more u x) ∙ h in
      let p : (x / 2 ^ u % 2) * 2 ^ u ≡ 0 = ap (λ (n : ℕ). n * 2 ^ u) e ∙ zero-mul (2 ^ u) in
      record { bit = e; rest = omega arith }
  | no e ↦
      let q : (x / 2 ^ u % 2) * 2 ^ u + x % 2 ^ u ≡ 0 = sym (one_more u x) ∙ h in
      let o : x / 2 ^ u % 2 ≡ 1 = omega arith in
      let p : (x / 2 ^ u % 2) * 2 ^ u ≡ 2 ^ u = ap (λ (n : ℕ). n * 2 ^ u) o ∙ one-mul (2 ^ u) in
      absurd (let z : ⊥ = omega (arith, pow_pos u) in z)
]

pub low_bits : (u x : ℕ) → x % 2 ^ u ≡ 0 → (j : ℕ) → j < u → x / 2 ^ j % 2 ≡ 0
low_bits zero x h j o = absurd (let z : ⊥ = omega arith in z)
low_bits (suc u) x h j o = elim (ℕ_discrete j u) [
  | yes e ↦ ap (λ (n : ℕ). x / 2 ^ n % 2) e ∙ (top u x h).bit
  | no e ↦ low_bits u x (top u x h).rest j (omega arith)
]

pub bits-low : (u x : ℕ) → ((j : ℕ) → j < u → x / 2 ^ j % 2 ≡ 0) → x % 2 ^ u ≡ 0
bits-low zero x h = (let z : x % 1 ≡ 0 = omega arith in z)
bits-low (suc u) x h =
    let r : x % 2 ^ u ≡ 0 = bits-low u x (λ j o. h j (omega arith)) in
    let p : (x / 2 ^ u % 2) * 2 ^ u ≡ 0 = ap (λ (n : ℕ). n * 2 ^ u) (h u (omega arith)) ∙ zero-mul (2 ^ u) in
    one_more u x ∙ (let z : (x / 2 ^ u % 2) * 2 ^ u + x % 2 ^ u ≡ 0 = omega arith in z)
