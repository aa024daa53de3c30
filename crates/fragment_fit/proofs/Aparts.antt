-- Laws of `fits_all`: one fragment after the other; a run of fragments whose bits stand in one word; and what decides. Assumes nothing.
use Rattle.wire.proofs.Basics.{◌∙◌, sym, ◌≡◌, ap, refl, ℕ, ◌≤◌, ◌+◌, ◌<◌, ◌-◌, suc, ◌*◌, ◌^◌, ◌%◌, ◌/◌, List, true, false, Bool, ◌&&◌, ◌||◌, not, inl, inr, get_or, eqb, ltb, leb, eq-eqb, le-ltb, ne_eqb}
use Rattle.wire.proofs.Basics.{lt-ltb, eqb-true, le-leb, lt-leb, leb-false, ℕ_discrete, dec_le, add-one, arith}
use native.Mathlib.Nat.{zero-div}
use Rattle.wire.proofs.Choices.{either, and_l, and_r, and-true, or_l, or_r}
use Rattle.steps.specs.Search.{all_below}
use Rattle.steps.specs.Held.{is_held}
use Rattle.steps.specs.Receive.{in_order_lem}
use Rattle.steps.proofs.Tables.{and_none, all_of, all-not, all_none, all_cong}
use Rattle.held_bits.proofs.Runs.{all_split}
use Rattle.held_bits.proofs.Bits.{held-bit}
use Rattle.fragment_fit.specs.Fits.{fits_in_lem}
use Rattle.fragment_fit.specs.Inside.{apart_at, near_fit_lem, apart_in}

-- ---- tests that a number passes

pub past : (o d p : ℕ) → p < o → true ≡ ltb p (o + d)
past o d p h = sym (lt-ltb p (o + d) (omega arith))

pub past_by : (o d p : ℕ) → o ≤ p → ltb (p - o) d ≡ ltb p (o + d)
past_by o d p h = elim (dec_le (suc (p - o)) d) [
  | yes q ↦ lt-ltb (p - o) d q ∙ sym (lt-ltb p (o + d) (omega arith))
  | no q ↦ le-ltb (p - o) d (omega arith) ∙ sym (le-ltb p (o + d) (omega arith))
]

leb-ltb : (a b : ℕ) → not (ltb b a) ≡ leb a b
leb-ltb a b = elim (dec_le a b) [
  | yes h ↦ ap not (le-ltb b a h) ∙ sym (le-leb a b h)
  | no h ↦ ap not (lt-ltb b a (omega arith)) ∙ sym (lt-leb a b (omega arith))
]

-- ---- fragments that are neighbours, and others

pub near : (i ends j begins : ℕ) → i + 1 ≡ j → in_order_lem i ends j begins ≡ eqb ends begins
near i ends j begins h = rw (eq-eqb (suc i) j (omega arith))

pub far : (i ends j begins : ℕ) → (i + 1 ≡ j → ⊥) → in_order_lem i ends j begins ≡ leb ends begins
far i ends j begins h = rw (ne_eqb (suc i) j (λ q. h (add-one i ∙ q)))

-- two that are in order where they are neighbours are in order exactly when the lower does not reach past where the higher begins
in_order : (i ends j begins : ℕ) → (i + 1 ≡ j → in_order_lem i ends j begins ≡ true) → not (ltb begins ends) ≡ in_order_lem i ends j begins
in_order i ends j begins h = elim (ℕ_discrete (i + 1) j) [
  | yes q ↦
      let e : ends ≡ begins = eqb-true ends begins (sym (near i ends j begins q) ∙ h q) in
      ap not (le-ltb begins ends (omega arith)) ∙ sym (h q)
  | no q ↦ leb-ltb ends begins ∙ sym (far i ends j begins q)
]

-- ---- numbers that pass, and a loop that counts those that do not

module _ (p : ℕ → Bool) where
  pub none_more : (b n m : ℕ) → eqb n 0 ≡ all_below b p → p b ≡ true → m ≡ n → eqb m 0 ≡ all_below (b + 1) p
  none_more b n m a e f = rw (add-one, e, f) a

  pub one_more : (b n m : ℕ) → p b ≡ false → m ≡ n + 1 → eqb m 0 ≡ all_below (b + 1) p
  one_more b n m e f = rw (add-one, e) (ne_eqb m 0 (omega arith))

  -- a run of m numbers from j on
  pub run-passes : (j m : ℕ) → all_below j p ≡ true → all_below m (λ b. p (j + b)) ≡ true → all_below (j + m) p ≡ true
  run-passes j m a e = rw (all_split p j m, e) a

  pub run_fails : (n j m : ℕ) → j + m ≤ n → all_below m (λ b. p (j + b)) ≡ false → all_below n p ≡ false
  run_fails n j m h e =
      let w = all_none m (λ b. p (j + b)) e in
      all-not n p (j + w.0) (omega (arith, w.1)) w.2

-- ---- a run of m fragments from j on: their bits stand in one word, and all are below k or none of them

module _ (h l : List ℕ) (k o d j m : ℕ) (inside : m ≤ 64 - j % 64) (side : j < k → j + m ≤ k) where
  one_side : (b : ℕ) → b < m → ltb (j + b) k ≡ ltb j k
  one_side b g = elim (dec_le (suc j) k) [
    | yes c ↦ let s : j + m ≤ k = side c in lt-ltb (j + b) k (omega arith) ∙ sym (lt-ltb j k c)
    | no c ↦ le-ltb (j + b) k (omega arith) ∙ sym (le-ltb j k (omega arith))
  ]

  pub run-word : (w : ℕ) → w ≡ get_or h (j / 64) 0 / 2 ^ (j % 64) → all_below m (λ b. apart_at h l k o d (j + b)) ≡ all_below m (apart_in w l (2 * j) (ltb j k) o d)
  run-word w e = all_cong m (λ b. apart_at h l k o d (j + b)) (apart_in w l (2 * j) (ltb j k) o d) (λ b g.
      let at : 2 * (j + b) ≡ 2 * j + 2 * b = omega arith in
      rw (held-bit h j b (omega arith), one_side b g, at, e) refl)

-- a word with no bit set holds nothing
pub zero-apart : (w m : ℕ) (l : List ℕ) (at : ℕ) (below : Bool) (o d : ℕ) → w ≡ 0 → all_below m (apart_in w l at below o d) ≡ true
zero-apart w m l at below o d e = all_of m (apart_in w l at below o d) (λ b g. rw (e, zero-div (2 ^ b)) refl)

-- ---- at most 64 fragments: their bits stand in the first word, and k parts it

module _ (h l : List ℕ) (n k o d : ℕ) (c : k < n) (few : n ≤ 64) where
  abbrev apart : ℕ → Bool
  apart = apart_at h l k o d

  below-are : all_below k apart ≡ all_below k (apart_in (get_or h 0 0) l 0 true o d)
  unfolding is_held
  below-are = all_cong k apart (apart_in (get_or h 0 0) l 0 true o d) (λ b g.
      let q : b / 64 ≡ 0 = omega arith in
      let r : b % 64 ≡ b = omega arith in
      let at : 0 + 2 * b ≡ 2 * b = omega arith in
      rw (q, r, at, lt-ltb b k g) refl)

  above-are : (w : ℕ) → w ≡ get_or h 0 0 / 2 ^ k → all_below (n - k) (λ b. apart (k + b)) ≡ all_below (n - k) (apart_in w l (2 * k) false o d)
  above-are w e =
      let q : k / 64 ≡ 0 = omega arith in
      let r : k % 64 ≡ k = omega arith in
      run-word h l k o d k (n - k) (omega arith) (λ z. omega arith) w (rw (q, r) e)
      ∙ ap (λ (below : Bool). all_below (n - k) (apart_in w l (2 * k) below o d)) (le-ltb k k (omega arith))

  pub few-below : all_below k (apart_in (get_or h 0 0) l 0 true o d) ≡ false → all_below n apart ≡ false
  few-below e = let w = all_none k apart (below-are ∙ e) in all-not n apart w.0 (omega (arith, w.1)) w.2

  pub few-all : (w : ℕ) → w ≡ get_or h 0 0 / 2 ^ k → all_below k (apart_in (get_or h 0 0) l 0 true o d) ≡ true
      → all_below (n - k) (apart_in w l (2 * k) false o d) ≡ all_below n apart
  few-all w e a =
      let s : k + (n - k) ≡ n = omega arith in
      sym (ap (λ (m : ℕ). all_below m apart) (sym s) ∙ all_split apart k (n - k) ∙ (λ i. above-are w e i && (below-are ∙ a) i) ∙ and-true (all_below (n - k) (apart_in w l (2 * k) false o d)))

-- ---- fragment k among n: its neighbours decide, and then whether one crosses it

module _ (h l : List ℕ) (n k o d : ℕ) where
  abbrev fits : ℕ → Bool
  fits = fits_in_lem h l k o d

  pub near_missed : k < n → near_fit_lem h l n k o d ≡ false → all_below n fits ≡ false
  near_missed c e = elim (and_none (leb k 0 || fits (k - 1)) (leb n (k + 1) || fits (k + 1)) e) [
    | inl q ↦ all-not n fits (k - 1) (omega arith) (or_r (leb k 0) (fits (k - 1)) q)
    | inr q ↦
        let r : k + 1 < n = leb-false n (k + 1) (or_l (leb n (k + 1)) (fits (k + 1)) q) in
        all-not n fits (k + 1) r (or_r (leb n (k + 1)) (fits (k + 1)) q)
  ]

  module _ (beside : near_fit_lem h l n k o d ≡ true) where
    before : (j : ℕ) → j + 1 ≡ k → fits j ≡ true
    before j q =
        let z : k - 1 ≡ j = omega arith in
        let here : (leb k 0 || fits (k - 1)) ≡ true = and_l (leb k 0 || fits (k - 1)) (leb n (k + 1) || fits (k + 1)) beside in
        rw (lt-leb k 0 (omega arith), z) at here

    after : (j : ℕ) → k + 1 ≡ j → j < n → fits j ≡ true
    after j q i =
        let here : (leb n (k + 1) || fits (k + 1)) ≡ true = and_r (leb k 0 || fits (k - 1)) (leb n (k + 1) || fits (k + 1)) beside in
        rw (lt-leb n (k + 1) (omega arith), q) at here

    -- fragment j of them
    apart_fits : (j : ℕ) → j < n → apart_at h l k o d j ≡ fits j
    apart_fits j i = elim (either (is_held h j)) [
      | inr f ↦ rw f refl
      | inl t ↦ elim (dec_le k j) [
        | yes c ↦
            let f : fits j ≡ in_order_lem k (o + d) j (get_or l (2 * j) 0) = rw (t, le-ltb j k c) refl in
            rw (t, le-ltb j k c) (in_order k (o + d) j (get_or l (2 * j) 0) (λ q. sym f ∙ after j q i))
        | no c ↦
            let g : j < k = omega arith in
            let f : fits j ≡ in_order_lem j (get_or l (2 * j) 0 + get_or l (2 * j + 1) 0) k o = rw (t, lt-ltb j k g) refl in
            rw (t, lt-ltb j k g) (in_order j (get_or l (2 * j) 0 + get_or l (2 * j + 1) 0) k o (λ q. sym f ∙ before j q))
      ]
    ]

    pub near_apart : all_below n (apart_at h l k o d) ≡ all_below n fits
    near_apart = all_cong n (apart_at h l k o d) fits apart_fits

  -- the neighbours are asked one after the other

  pub near_breaks : 0 < k → fits (k - 1) ≡ false → near_fit_lem h l n k o d ≡ false
  near_breaks c e = rw (lt-leb k 0 c, e) refl

  pub first_fits : fits (k - 1) ≡ true → (leb k 0 || fits (k - 1)) ≡ true
  first_fits e = elim (either (leb k 0)) [ inl t ↦ rw t refl | inr f ↦ rw f e ]

  pub first-free : k ≤ 0 → (leb k 0 || fits (k - 1)) ≡ true
  first-free c = rw (le-leb k 0 c) refl

  module _ (first : (leb k 0 || fits (k - 1)) ≡ true) where
    pub near-other : k + 1 < n → near_fit_lem h l n k o d ≡ fits (k + 1)
    near-other c = rw (first, lt-leb n (k + 1) c) refl

    pub near-only : n ≤ k + 1 → near_fit_lem h l n k o d ≡ true
    near-only c = rw (first, le-leb n (k + 1) c) refl
