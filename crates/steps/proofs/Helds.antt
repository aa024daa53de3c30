-- Laws of the held fragments. Nothing else opens `is_held`, `hold` and `none_held`.
use Rattle.wire.proofs.Basics.{◌∙◌, sym, ◌≡◌, ap, refl, ℕ, ◌+◌, ◌<◌, ◌-◌, suc, zero, ◌^◌, ◌%◌, ◌/◌, List, true, false, ◌≢◌, length, get_or, replicate, length-set, length-replicate, List·getD-eq-default}
use Rattle.wire.proofs.Basics.{get_or-replicate, get_or-set_other, get_or-set_same, set_out, eqb, lit<, one-mul, ℕ_discrete, dec_le, arith}
use native.Mathlib.Nat.{zero-div, div-eq_of_lt, div_self, mod-lt}
use lib.Bits.{bit_or, or_shr, or_mod, or_zero_r, shifted_even}
use lib.Pow.{pow_pos, pow-lt, pow-add, shl-shr}
use Rattle.datagram.specs.Limits.{max_fragments}
use Rattle.steps.specs.Held.{held_words, is_held, hold, none_held}

-- ---- bits

-- bit b of w
abbrev bit : ℕ → ℕ → ℕ
bit w b = w / 2 ^ b % 2

bit-or : (w v b : ℕ) → bit (bit_or w v) b ≡ bit_or (bit w b) (bit v b)
bit-or w v b = ap (λ (x : ℕ). x % 2) (or_shr w v b) ∙ or_mod (w / 2 ^ b) (v / 2 ^ b) 1

bit-same : (b : ℕ) → bit (2 ^ b) b ≡ 1
bit-same b = ap (λ (x : ℕ). x % 2) (div_self (pow_pos b))

bit-above : (b d : ℕ) → bit (2 ^ (suc d + b)) b ≡ 0
bit-above b d =
    ap (λ (x : ℕ). x / 2 ^ b % 2) (pow-add 2 (suc d) b)
    ∙ ap (λ (x : ℕ). x % 2) (shl-shr (2 ^ suc d) b ∙ sym (one-mul (2 ^ suc d)))
    ∙ shifted_even 1 d

bit-other : (a b : ℕ) → a ≢ b → bit (2 ^ a) b ≡ 0
bit-other a b n = elim (dec_le a b) [
  | yes h ↦ ap (λ (x : ℕ). x % 2) (div-eq_of_lt (pow-lt (let z : a < b = omega arith in z)))
  | no h ↦
      let e : suc (a - suc b) + b ≡ a = omega arith in
      rw e at (bit-above b (a - suc b))
]

or-one : (x : ℕ) → x < 2 → bit_or x 1 ≡ 1
or-one zero h = refl
or-one (suc zero) h = refl
or-one (suc (suc x)) h = absurd (let z : ⊥ = omega arith in z)

-- ---- the laws

pub none-held : (k : ℕ) → is_held none_held k ≡ false
unfolding is_held none_held
none-held k =
    let e : ◌≡◌ {A = ℕ} (get_or (replicate held_words 0) (k / 64) 0) 0 = elim (dec_le (suc (k / 64)) held_words) [
      | yes h ↦ get_or-replicate held_words (k / 64) 0 0 h
      | no h ↦ List·getD-eq-default (replicate held_words 0) 0 {n = k / 64} (omega arith)
    ] in
    ap (λ (x : ℕ). eqb (x / 2 ^ (k % 64) % 2) 1) e ∙ ap (λ (x : ℕ). eqb (x % 2) 1) (zero-div (2 ^ (k % 64)))

pub hold-same : (h : List ℕ) (k : ℕ) → k < max_fragments → length h ≡ held_words → is_held (hold h k) k ≡ true
unfolding is_held hold
hold-same h k b l =
    let w : ℕ = get_or h (k / 64) 0 in
    ap (λ (x : ℕ). eqb (bit x (k % 64)) 1) (get_or-set_same h (k / 64) (bit_or w (2 ^ (k % 64))) 0 (omega arith))
    ∙ ap (λ (x : ℕ). eqb x 1) (bit-or w (2 ^ (k % 64)) (k % 64) ∙ ap (bit_or (bit w (k % 64))) (bit-same (k % 64)) ∙ or-one (bit w (k % 64)) (mod-lt (w / 2 ^ (k % 64)) (lit< tt)))

pub hold-other : (h : List ℕ) (k j : ℕ) → j ≢ k → is_held (hold h k) j ≡ is_held h j
unfolding is_held hold
hold-other h k j n = elim (ℕ_discrete (j / 64) (k / 64)) [
  | no q ↦ ap (λ (x : ℕ). eqb (bit x (j % 64)) 1) (get_or-set_other h (k / 64) (j / 64) (bit_or (get_or h (k / 64) 0) (2 ^ (k % 64))) 0 q)
  | yes q ↦ elim (dec_le (suc (k / 64)) (length h)) [
    | yes b ↦
        let w : ℕ = get_or h (k / 64) 0 in
        let m : k % 64 ≢ j % 64 = omega arith in
        rw q (ap (λ (x : ℕ). eqb (bit x (j % 64)) 1) (get_or-set_same h (k / 64) (bit_or w (2 ^ (k % 64))) 0 b)
        ∙ ap (λ (x : ℕ). eqb x 1) (bit-or w (2 ^ (k % 64)) (j % 64) ∙ ap (bit_or (bit w (j % 64))) (bit-other (k % 64) (j % 64) m) ∙ or_zero_r (bit w (j % 64))))
    | no b ↦ ap (λ (l : List ℕ). eqb (bit (get_or l (j / 64) 0) (j % 64)) 1) (set_out h (k / 64) (bit_or (get_or h (k / 64) 0) (2 ^ (k % 64))) (omega arith))
  ]
]

pub hold-length : (h : List ℕ) (k : ℕ) → length (hold h k) ≡ length h
unfolding hold
hold-length h k = length-set h (k / 64) (bit_or (get_or h (k / 64) 0) (2 ^ (k % 64)))

pub none-length : length none_held ≡ held_words
unfolding none_held
none-length = length-replicate {A = ℕ} held_words 0
