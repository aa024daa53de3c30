-- Laws of the bits of a word, and of held fragments word by word. Assumes nothing.
use Rattle.wire.proofs.Basics.{◌∙◌, sym, ◌≡◌, ap, refl, ℕ, ◌≤◌, ◌+◌, ◌<◌, ◌-◌, suc, zero, ◌*◌, ◌^◌, ◌%◌, ◌/◌, List, true, false, Bool, ◌&&◌, inl, inr, get_or, eqb, eq-eqb, ne_eqb, eqb-true, eqb-false, pow-suc}
use Rattle.wire.proofs.Basics.{one-mul, ℕ_discrete, arith}
use native.Mathlib.Nat.{mod-lt, mod-eq_of_lt}
use lib.Pow.{pow_pos, mod-pow-add, shl_exact, shr-shr}
use Rattle.wire.proofs.Choices.{either, and-false}
use Rattle.steps.specs.Search.{all_below}
use Rattle.steps.specs.Held.{is_held}
use Rattle.steps.proofs.Tables.{all_cong}
use Rattle.held_bits.specs.InsideBits.{bit_in}
use Rattle.held_bits.proofs.Runs.{all_split}

-- ---- a word whose lowest bits are set

pub above-bits : (n : ℕ) → n < 64 → (1 * 2 ^ n) % 2 ^ 64 ≡ 2 ^ n
above-bits n h = shl_exact {a = 1} 1 n 64 (omega arith) (omega arith) ∙ one-mul (2 ^ n)

-- r below p, and a bit above it: all are set when that one is and all below it are
top_set : (x r p : ℕ) → 0 < p → x ≡ p + r → eqb x (p * 2 - 1) ≡ eqb r (p - 1)
top_set x r p h e = elim (ℕ_discrete r (p - 1)) [
  | yes q ↦ eq-eqb x (p * 2 - 1) (omega arith) ∙ sym (eq-eqb r (p - 1) q)
  | no q ↦ ne_eqb x (p * 2 - 1) (λ z. q (omega arith)) ∙ sym (ne_eqb r (p - 1) q)
]

pub low_bits : (n w : ℕ) → eqb (w % 2 ^ n) (2 ^ n - 1) ≡ all_below n (bit_in w)
low_bits zero w = eq-eqb (w % 1) 0 (omega arith)
low_bits (suc n) w =
    let p = 2 ^ n in
    let r = w % p in
    let some : 0 < p = pow_pos n in
    let less : r < p = mod-lt w some in
    let twice : 2 ^ suc n ≡ p * 2 = pow-suc 2 n in
    let next : 1 + n ≡ suc n = omega arith in
    let parts : w % (p * 2) ≡ (w / p % 2) * p + r = rw (next, twice) at (mod-pow-add w 1 n) in
    elim (either (bit_in w n)) [
      | inl t ↦
          let here : w % (p * 2) ≡ 1 * p + r = rw (eqb-true (w / p % 2) 1 t) at parts in
          rw (twice, t) (top_set (w % (p * 2)) r p some (omega arith) ∙ low_bits n w)
      | inr f ↦
          let no : w / p % 2 ≡ 1 → ⊥ = eqb-false (w / p % 2) 1 f in
          let none : w / p % 2 ≡ 0 = omega arith in
          let here : w % (p * 2) ≡ 0 * p + r = rw none at parts in
          rw (twice, f) (ne_eqb (w % (p * 2)) (p * 2 - 1) (λ z. omega arith))
    ]

pub full-bits : (w : ℕ) → w < 2 ^ 64 → eqb w 18446744073709551615 ≡ all_below 64 (bit_in w)
full-bits w h = rw (mod-eq_of_lt h) at (low_bits 64 w)

-- ---- held fragments whose bits stand in one word

pub held-bit : (h : List ℕ) (j b : ℕ) → j % 64 + b < 64 → is_held h (j + b) ≡ bit_in (get_or h (j / 64) 0 / 2 ^ (j % 64)) b
unfolding is_held
held-bit h j b l =
    let q : (j + b) / 64 ≡ j / 64 = omega arith in
    let r : (j + b) % 64 ≡ j % 64 + b = omega arith in
    rw (q, r) (ap (λ (x : ℕ). eqb (x % 2) 1) (sym (shr-shr (get_or h (j / 64) 0) (j % 64) b)))

held-run : (h : List ℕ) (q m : ℕ) → m ≤ 64 → all_below (64 * q + m) (is_held h) ≡ (all_below m (bit_in (get_or h q 0)) && all_below (64 * q) (is_held h))
unfolding is_held
held-run h q m l =
    all_split (is_held h) (64 * q) m
    ∙ ap (λ (t : Bool). t && all_below (64 * q) (is_held h)) (all_cong m (λ b. is_held h (64 * q + b)) (bit_in (get_or h q 0)) (λ b g.
    let d : (64 * q + b) / 64 ≡ q = omega arith in
    let r : (64 * q + b) % 64 ≡ b = omega arith in
    rw (d, r) refl))

-- those of the last word, and of the words before it
pub held-last : (h : List ℕ) (n : ℕ) → all_below n (is_held h) ≡ (all_below (n % 64) (bit_in (get_or h (n / 64) 0)) && all_below (64 * (n / 64)) (is_held h))
held-last h n =
    let e : 64 * (n / 64) + n % 64 ≡ n = omega arith in
    rw e at (held-run h (n / 64) (n % 64) (omega arith))

pub held_word_lem : (h : List ℕ) (q : ℕ) → 0 < q → get_or h (q - 1) 0 < 2 ^ 64
    → all_below (64 * q) (is_held h) ≡ (eqb (get_or h (q - 1) 0) 18446744073709551615 && all_below (64 * (q - 1)) (is_held h))
held_word_lem h q c l =
    let e : 64 * (q - 1) + 64 ≡ 64 * q = omega arith in
    rw e at (rw (← full-bits (get_or h (q - 1) 0) l) at (held-run h (q - 1) 64 (omega arith)))

-- all of some words are full
all-full : (h : List ℕ) (q : ℕ) → ((i : ℕ) → i < q → get_or h i 0 ≡ 18446744073709551615) → all_below (64 * q) (is_held h) ≡ true
all-full h zero f = refl
all-full h (suc q) f =
    let e : suc q - 1 ≡ q = omega arith in
    let x : get_or h q 0 ≡ 18446744073709551615 = f q (omega arith) in
    let k : all_below (64 * suc q) (is_held h) ≡ (eqb (get_or h q 0) 18446744073709551615 && all_below (64 * q) (is_held h)) = rw e at (held_word_lem h (suc q) (omega arith) (rw e (omega arith))) in
    k ∙ rw (eq-eqb _ _ x) (all-full h q (λ i l. f i (omega arith)))

-- or one is not
one_not_full : (h : List ℕ) → ((i : ℕ) → get_or h i 0 < 2 ^ 64) → (q i : ℕ) → i < q → (get_or h i 0 ≡ 18446744073709551615 → ⊥) → all_below (64 * q) (is_held h) ≡ false
one_not_full h fit zero i l d = absurd (omega arith)
one_not_full h fit (suc q) i l d =
    let e : suc q - 1 ≡ q = omega arith in
    let k : all_below (64 * suc q) (is_held h) ≡ (eqb (get_or h q 0) 18446744073709551615 && all_below (64 * q) (is_held h)) = rw e at (held_word_lem h (suc q) (omega arith) (fit (suc q - 1))) in
    k ∙ elim (ℕ_discrete i q) [
      | yes z ↦ let n : get_or h q 0 ≡ 18446744073709551615 → ⊥ = λ y. d (ap (λ (j : ℕ). get_or h j 0) z ∙ y) in rw (ne_eqb _ _ n) refl
      | no z ↦ ap (λ (b : Bool). eqb (get_or h q 0) 18446744073709551615 && b) (one_not_full h fit q i (omega arith) d) ∙ and-false (eqb (get_or h q 0) 18446744073709551615)
    ]

pub words_full : (h : List ℕ) → ((i : ℕ) → get_or h i 0 < 2 ^ 64) → (q : ℕ) (b : Bool) → (b ≡ true → (i : ℕ) → i < q → get_or h i 0 ≡ 18446744073709551615)
    → (b ≡ false → (i : ℕ) × (i < q) × (get_or h i 0 ≡ 18446744073709551615 → ⊥)) → b ≡ all_below (64 * q) (is_held h)
words_full h fit q true y n = sym (all-full h q (y refl))
words_full h fit q false y n = let d = n refl in sym (one_not_full h fit q d.0 d.1 d.2)
