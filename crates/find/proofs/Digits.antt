-- A number, digit by digit. Assumes nothing.
use Rattle.wire.proofs.Basics.{◌∙◌, sym, ◌≡◌, ap, refl, ℕ, ◌≤◌, ◌+◌, ◌<◌, ◌-◌, ◌*◌, List, [], ◌∷◌, some, none, length, drop, get_or, drop_of_length-le, drop-cons, le-leb, lt-leb, add-one, arith}
use Rattle.find.specs.Numbers.{with_digit_lem, onward, digits_from, number_in}

module _ (most v x : ℕ) where
  pub below-digits : x < 48 → none ≡ with_digit_lem most v x
  unfolding with_digit_lem
  below-digits h = rw (lt-leb 48 x h) refl

  pub above-digits : 48 ≤ x → 57 < x → none ≡ with_digit_lem most v x
  unfolding with_digit_lem
  above-digits g h = rw (le-leb 48 x g, lt-leb x 57 h) refl

  pub above_most : 48 ≤ x → x ≤ 57 → most < 10 * v + (x - 48) → none ≡ with_digit_lem most v x
  unfolding with_digit_lem
  above_most g h l = rw (le-leb 48 x g, le-leb x 57 h, lt-leb (10 * v + (x - 48)) most l) refl

  pub one-digit : 48 ≤ x → x ≤ 57 → 10 * v + (x - 48) ≤ most → some (10 * v + (x - 48)) ≡ with_digit_lem most v x
  unfolding with_digit_lem
  one-digit g h l = rw (le-leb 48 x g, le-leb x 57 h, le-leb (10 * v + (x - 48)) most l) refl

pub no-digits : (most : ℕ) (t : List ℕ) → length t ≡ 0 → none ≡ number_in most t
no-digits most [] h = refl
no-digits most (x ∷ t) h = absurd (let z : ⊥ = omega arith in z)

pub some-digits : (most : ℕ) (t : List ℕ) → (length t ≡ 0 → ⊥) → digits_from most 0 t ≡ number_in most t
some-digits most [] h = absurd (h refl)
some-digits most (x ∷ t) h = refl

module _ (most v : ℕ) (t : List ℕ) (i : ℕ) where
  digits-at : i < length t → digits_from most v (drop i t) ≡ onward (λ n. digits_from most n (drop (i + 1) t)) (with_digit_lem most v (get_or t i 0))
  unfolding digits_from
  digits-at h = ap (digits_from most v) (let d : drop i t ≡ get_or t i 0 ∷ drop (i + 1) t = rw (add-one, drop-cons t i 0) in d)

  pub digits-next : i < length t → (n : ℕ) → some n ≡ with_digit_lem most v (get_or t i 0) → digits_from most n (drop (i + 1) t) ≡ digits_from most v (drop i t)
  digits-next h n e = ap (onward (λ m. digits_from most m (drop (i + 1) t))) e ∙ sym (digits-at h)

  pub digits-none : i < length t → none ≡ with_digit_lem most v (get_or t i 0) → none ≡ digits_from most v (drop i t)
  digits-none h e = ap (onward (λ m. digits_from most m (drop (i + 1) t))) e ∙ sym (digits-at h)

  pub digits-end : length t ≤ i → some v ≡ digits_from most v (drop i t)
  unfolding digits_from
  digits-end h = ap (digits_from most v) (sym (drop_of_length-le t h))
