-- Halving: more turns than there are places change nothing, a turn goes on in one half, and where the test changes once it ends there. Assumes nothing.
use Rattle.wire.proofs.Basics.{◌∙◌, sym, ◌≡◌, ap, refl, ℕ, ◌≤◌, ◌+◌, ◌<◌, ◌-◌, suc, zero, true, false, Bool, inl, inr, ltb, le-ltb, lt-ltb, ltb-false, ltb-true, arith}
use Rattle.wire.specs.Choice.{pick}
use Rattle.wire.proofs.Choices.{either}
use Rattle.wire.specs.Halving.{middle, halve}

-- true up to a place of the first n, and false there
pub record Turns (p : ℕ → Bool) (n r : ℕ) : Type 0 where
  pub most : r ≤ n
  pub left : (i : ℕ) → i < r → p i ≡ true
  pub right : r < n → p r ≡ false

module _ (p : ℕ → Bool) where
  pub done : (k low high : ℕ) → high ≤ low → halve k p low high ≡ low
  unfolding halve
  done zero low high h = refl
  done (suc k) low high h = rw (le-ltb low high h)

  pub turn : (k low high : ℕ) (b : Bool) → low < high → p (middle low high) ≡ b
      → halve (suc k) p low high ≡ halve k p (pick b (middle low high + 1) low) (pick b high (middle low high))
  unfolding halve
  turn k low high b h e = rw (lt-ltb low high h, e)

  enough : (k j low high : ℕ) → high ≤ low + k → high ≤ low + j → halve k p low high ≡ halve j p low high
  unfolding halve
  enough zero j low high h g = done zero low high (omega arith) ∙ sym (done j low high (omega arith))
  enough (suc k) zero low high h g = done (suc k) low high (omega arith)
  enough (suc k) (suc j) low high h g = elim (either (ltb low high)) [
    | inl e ↦
        let l = ltb-true low high e in
        elim (either (p (middle low high))) [
          | inl q ↦
              turn k low high true l q
              ∙ (enough k j (middle low high + 1) high (omega arith) (omega arith) ∙ sym (turn j low high true l q))
          | inr q ↦
              turn k low high false l q
              ∙ (enough k j low (middle low high) (omega arith) (omega arith) ∙ sym (turn j low high false l q))
        ]
    | inr e ↦ done (suc k) low high (ltb-false low high e) ∙ sym (done (suc j) low high (ltb-false low high e))
  ]

  -- the middle passes the test, or not: the search goes on there
  pub goes-behind : (low high : ℕ) → low < high → p (middle low high) ≡ true
      → halve (high - (middle low high + 1)) p (middle low high + 1) high ≡ halve (high - low) p low high
  goes-behind low high h e =
      enough (high - (middle low high + 1)) (high - low) (middle low high + 1) high (omega arith) (omega arith)
      ∙ (sym (turn (high - low) low high true h e) ∙ enough (suc (high - low)) (high - low) low high (omega arith) (omega arith))

  pub goes_before : (low high : ℕ) → low < high → p (middle low high) ≡ false
      → halve (middle low high - low) p low (middle low high) ≡ halve (high - low) p low high
  goes_before low high h e =
      enough (middle low high - low) (high - low) low (middle low high) (omega arith) (omega arith)
      ∙ (sym (turn (high - low) low high false h e) ∙ enough (suc (high - low)) (high - low) low high (omega arith) (omega arith))

  pub ends : (low high : ℕ) → high ≤ low → halve (high - low) p low high ≡ low
  ends low high h = done (high - low) low high h

  -- from the start, with as many turns as there are places
  pub starts : (n high : ℕ) → high ≡ n → halve (high - 0) p 0 high ≡ halve n p 0 n
  starts n high e = enough (high - 0) high 0 high (omega arith) (omega arith) ∙ ap (λ (h : ℕ). halve h p 0 h) e

  -- no place past the last
  pub halve-most : (k low high : ℕ) → low ≤ high → halve k p low high ≤ high
  unfolding halve
  halve-most zero low high h = h
  halve-most (suc k) low high h = elim (either (ltb low high)) [
    | inl e ↦
        let l = ltb-true low high e in
        elim (either (p (middle low high))) [
          | inl q ↦ rw (turn k low high true l q) (halve-most k (middle low high + 1) high (omega arith))
          | inr q ↦ let i : halve k p low (middle low high) ≤ middle low high = halve-most k low (middle low high) (omega arith) in rw (turn k low high false l q) (omega arith)
        ]
    | inr e ↦ rw (done (suc k) low high (ltb-false low high e)) h
  ]

  -- a test that, once it fails, fails from there on
  module _ (n : ℕ) (falls : (i j : ℕ) → i ≤ j → j < n → p j ≡ true → p i ≡ true) where
    pub halve-turns : (k low high : ℕ) → high ≤ low + k → low ≤ high → high ≤ n → ((i : ℕ) → i < low → p i ≡ true) → (high < n → p high ≡ false)
        → Turns p n (halve k p low high)
    unfolding halve
    halve-turns zero low high h g m left right =
        let e : low ≡ high = omega arith in
        record { most = omega arith; left = left; right = rw (← e) at right }
    halve-turns (suc k) low high h g m left right = elim (either (ltb low high)) [
      | inl e ↦
          let l = ltb-true low high e in
          elim (either (p (middle low high))) [
            | inl q ↦
                let left' : (i : ℕ) → i < middle low high + 1 → p i ≡ true = λ i b. falls i (middle low high) (omega arith) (omega arith) q in
                rw (turn k low high true l q) (halve-turns k (middle low high + 1) high (omega arith) (omega arith) m left' right)
            | inr q ↦ rw (turn k low high false l q) (halve-turns k low (middle low high) (omega arith) (omega arith) (omega arith) left (λ b. q))
          ]
      | inr e ↦
          let b = ltb-false low high e in
          let z : low ≡ high = omega arith in
          rw (done (suc k) low high b) (record { most = omega arith; left = left; right = rw (← z) at right })
    ]
