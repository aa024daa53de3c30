-- The order of rows: total, and one row has one place among sorted ones. Assumes nothing.
use Rattle.wire.proofs.Basics.{◌∙◌, sym, ◌≡◌, ◌≤◌, ◌<◌, true, false, inl, inr, eqb, ltb, eq-eqb, le-ltb, ne_eqb, lt-ltb, eqb-true, ltb-false, ltb-true, eqb-false, arith}
use Rattle.wire.proofs.Choices.{either, never}
use Rattle.log_index.specs.Rows.{Row, row_of, earlier}

-- a before b: by sender, then sequence, then place
pub data Before (a b : Row) : Type 0 where
  by-sender : a.sender < b.sender → Before a b
  by-sequence : a.sender ≡ b.sender → a.sequence < b.sequence → Before a b
  by_place_lem : a.sender ≡ b.sender → a.sequence ≡ b.sequence → a.place < b.place → Before a b

-- b before a, or the same
pub data Behind (a b : Row) : Type 0 where
  of-sender : b.sender < a.sender → Behind a b
  of-sequence : b.sender ≡ a.sender → b.sequence < a.sequence → Behind a b
  of-place : b.sender ≡ a.sender → b.sequence ≡ a.sequence → b.place ≤ a.place → Behind a b

-- ---- the test decides it

module _ (a b : Row) where
  pub before-test : Before a b → earlier a b ≡ true
  unfolding earlier
  before-test (by-sender h) = rw (ne_eqb a.sender b.sender (λ e. omega arith)) (lt-ltb a.sender b.sender h)
  before-test (by-sequence e h) = rw (eq-eqb a.sender b.sender e, ne_eqb a.sequence b.sequence (λ e. omega arith)) (lt-ltb a.sequence b.sequence h)
  before-test (by_place_lem e f h) = rw (eq-eqb a.sender b.sender e, eq-eqb a.sequence b.sequence f) (lt-ltb a.place b.place h)

  pub behind_test : Behind a b → earlier a b ≡ false
  unfolding earlier
  behind_test (of-sender h) = rw (ne_eqb a.sender b.sender (λ e. omega arith)) (le-ltb a.sender b.sender (omega arith))
  behind_test (of-sequence e h) =
      rw (eq-eqb a.sender b.sender (sym e), ne_eqb a.sequence b.sequence (λ e. omega arith)) (le-ltb a.sequence b.sequence (omega arith))
  behind_test (of-place e f h) = rw (eq-eqb a.sender b.sender (sym e), eq-eqb a.sequence b.sequence (sym f)) (le-ltb a.place b.place h)

-- one or the other
pub data Either (a b : Row) : Type 0 where
  before : Before a b → Either a b
  behind : Behind a b → Either a b

module _ (a b : Row) where
  by-places : a.sender ≡ b.sender → a.sequence ≡ b.sequence → Either a b
  by-places e f = elim (either (ltb a.place b.place)) [
    | inl h ↦ before (by_place_lem e f (ltb-true a.place b.place h))
    | inr h ↦ behind (of-place (sym e) (sym f) (ltb-false a.place b.place h))
  ]

  by-sequences : a.sender ≡ b.sender → Either a b
  by-sequences e = elim (either (eqb a.sequence b.sequence)) [
    | inl f ↦ by-places e (eqb-true a.sequence b.sequence f)
    | inr f ↦
        let n = eqb-false a.sequence b.sequence f in
        elim (either (ltb a.sequence b.sequence)) [
          | inl h ↦ before (by-sequence e (ltb-true a.sequence b.sequence h))
          | inr h ↦ let k = ltb-false a.sequence b.sequence h in behind (of-sequence (sym e) (omega (arith, n, k)))
        ]
  ]

  pub one_of : Either a b
  one_of = elim (either (eqb a.sender b.sender)) [
    | inl e ↦ by-sequences (eqb-true a.sender b.sender e)
    | inr e ↦
        let n = eqb-false a.sender b.sender e in
        elim (either (ltb a.sender b.sender)) [
          | inl h ↦ before (by-sender (ltb-true a.sender b.sender h))
          | inr h ↦ let k = ltb-false a.sender b.sender h in behind (of-sender (omega (arith, n, k)))
        ]
  ]

  told-before : Either a b → earlier a b ≡ true → Before a b
  told-before (before h) e = h
  told-before (behind h) e = never e (behind_test a b h)

  told-behind : Either a b → earlier a b ≡ false → Behind a b
  told-behind (before h) e = never (before-test a b h) e
  told-behind (behind h) e = h

  pub test-before : earlier a b ≡ true → Before a b
  test-before = told-before one_of

  pub test-behind : earlier a b ≡ false → Behind a b
  test-behind = told-behind one_of

-- ---- laws

turned : (a b : Row) → Before a b → Behind b a
turned a b (by-sender h) = of-sender h
turned a b (by-sequence e h) = of-sequence e h
turned a b (by_place_lem e f h) = of-place e f (omega arith)

-- a before b: not b before a
pub earlier-turned : (a b : Row) → earlier a b ≡ true → earlier b a ≡ false
earlier-turned a b h = behind_test b a (turned a b (test-before a b h))

behind_trans : (a b c : Row) → Behind a b → Behind b c → Behind a c
behind_trans a b c (of-sender h) (of-sender g) = of-sender (omega arith)
behind_trans a b c (of-sender h) (of-sequence e g) = of-sender (omega arith)
behind_trans a b c (of-sender h) (of-place e f g) = of-sender (omega arith)
behind_trans a b c (of-sequence e h) (of-sender g) = of-sender (omega arith)
behind_trans a b c (of-sequence e h) (of-sequence d g) = of-sequence (d ∙ e) (omega arith)
behind_trans a b c (of-sequence e h) (of-place d f g) = of-sequence (d ∙ e) (omega arith)
behind_trans a b c (of-place e f h) (of-sender g) = of-sender (omega arith)
behind_trans a b c (of-place e f h) (of-sequence d g) = of-sequence (d ∙ e) (omega arith)
behind_trans a b c (of-place e f h) (of-place d k g) = of-place (d ∙ e) (k ∙ f) (omega arith)

-- b up to a, c up to b: c up to a
pub upto_trans : (a b c : Row) → earlier a b ≡ false → earlier b c ≡ false → earlier a c ≡ false
upto_trans a b c h g = behind_test a c (behind_trans a b c (test-behind a b h) (test-behind b c g))

behind-before : (a b c : Row) → Behind a b → Before a c → Before b c
behind-before a b c (of-sender h) (by-sender g) = by-sender (omega arith)
behind-before a b c (of-sender h) (by-sequence e g) = by-sender (omega arith)
behind-before a b c (of-sender h) (by_place_lem e f g) = by-sender (omega arith)
behind-before a b c (of-sequence e h) (by-sender g) = by-sender (omega arith)
behind-before a b c (of-sequence e h) (by-sequence d g) = by-sequence (e ∙ d) (omega arith)
behind-before a b c (of-sequence e h) (by_place_lem d f g) = by-sequence (e ∙ d) (omega arith)
behind-before a b c (of-place e f h) (by-sender g) = by-sender (omega arith)
behind-before a b c (of-place e f h) (by-sequence d g) = by-sequence (e ∙ d) (omega arith)
behind-before a b c (of-place e f h) (by_place_lem d k g) = by_place_lem (e ∙ d) (f ∙ k) (omega arith)

-- b up to a, a before c: b before c
pub upto-earlier : (a b c : Row) → earlier a b ≡ false → earlier a c ≡ true → earlier b c ≡ true
upto-earlier a b c h g = before-test b c (behind-before a b c (test-behind a b h) (test-before a c g))

same : (a b : Row) → Behind a b → Behind b a → a ≡ b
same a b (of-sender h) (of-sender g) = absurd (let z : ⊥ = omega arith in z)
same a b (of-sender h) (of-sequence e g) = absurd (let z : ⊥ = omega arith in z)
same a b (of-sender h) (of-place e f g) = absurd (let z : ⊥ = omega arith in z)
same a b (of-sequence e h) (of-sender g) = absurd (let z : ⊥ = omega arith in z)
same a b (of-sequence e h) (of-sequence d g) = absurd (let z : ⊥ = omega arith in z)
same a b (of-sequence e h) (of-place d f g) = absurd (let z : ⊥ = omega arith in z)
same a b (of-place e f h) (of-sender g) = absurd (let z : ⊥ = omega arith in z)
same a b (of-place e f h) (of-sequence d g) = absurd (let z : ⊥ = omega arith in z)
same a b (of-place e f h) (of-place d k g) =
    let p : a.place ≡ b.place = omega arith in
    λ j. row_of (d j) (k j) (p j)

-- neither before the other: the same row
pub earlier-same : (a b : Row) → earlier a b ≡ false → earlier b a ≡ false → a ≡ b
earlier-same a b h g = same a b (test-behind a b h) (test-behind b a g)
