-- Laws of the scan of a name: where it can go from where. Assumes nothing.
use Rattle.wire.proofs.Basics.{◌∙◌, sym, ◌≡◌, ap, refl, ℕ, ◌≤◌, ◌+◌, ◌<◌, List, [], ◌∷◌, true, false, inl, inr, length, drop, get_or, drop_of_length-le, drop-cons, eqb, leb, eq-eqb, ne_eqb, eqb-true}
use Rattle.wire.proofs.Basics.{le-leb, lt-leb, leb-true, ℕ_discrete, add-one, arith}
use Rattle.std.specs.List.{list_all}
use Rattle.wire.proofs.Choices.{and_l, and_r, and-of, and-false, either, pick_all}
use Rattle.names.specs.Scan.{within, start, bad, low_after_lem, high_after_lem, next, scan}
use Rattle.names.specs.declared.Scan.{Scan}

-- ---- within

pub within_of : (low high x : ℕ) → low ≤ x → x ≤ high → within low high x ≡ true
within_of low high x h k = and-of (leb low x) (leb x high) (le-leb low x h) (le-leb x high k)

pub within_low : (low high x : ℕ) → within low high x ≡ true → low ≤ x
within_low low high x e = leb-true low x (and_l (leb low x) (leb x high) e)

pub within-high : (low high x : ℕ) → within low high x ≡ true → x ≤ high
within-high low high x e = leb-true x high (and_r (leb low x) (leb x high) e)

pub below : (low high x : ℕ) → x < low → within low high x ≡ false
below low high x h = rw (lt-leb low x h)

pub above : (low high x : ℕ) → high < x → within low high x ≡ false
above low high x h = rw (lt-leb x high h) (and-false (leb low x))

-- ---- a scan that went wrong stays so, and a zero byte makes it go wrong

pub bad-stays : (l : List ℕ) → scan bad l ≡ bad
bad-stays [] = refl
bad-stays (x ∷ l) = ap (λ (s : Scan). scan s l) wrong ∙ bad-stays l
  where
    empty : within 1 0 x ≡ false
    empty = elim (either (within 1 0 x)) [
      | inl e ↦ absurd (let w : ⊥ = omega (arith, within_low 1 0 x e, within-high 1 0 x e) in w)
      | inr e ↦ e
    ]

    wrong : next bad x ≡ bad
    wrong = rw empty

pub next-zero : (s : Scan) (x : ℕ) → 1 ≤ s.low → x ≡ 0 → next s x ≡ bad
next-zero s x h z =
    rw (z, below s.low s.high 0 h)
    (pick_all (λ (r : Scan). r ≡ bad) (eqb s.left 0) (λ _. refl) (λ _. refl))

pub next_low : (s : Scan) (x : ℕ) → 1 ≤ (next s x).low
next_low s x =
    pick_all Low (eqb s.left 0)
    (λ _.
    pick_all Low (within 32 126 x) (λ _. omega arith) λ _.
    pick_all Low (within 0xc2 0xdf x) (λ _. after-low) λ _.
    pick_all Low (within 0xe0 0xef x) (λ _. after-low) λ _.
    pick_all Low (within 0xf0 0xf4 x) (λ _. after-low) (λ _. omega arith))
    (λ _. pick_all Low (within s.low s.high x) (λ _. omega arith) (λ _. omega arith))
  where
    Low : Scan → Type 0
    Low r = 1 ≤ r.low

    after-low : 1 ≤ low_after_lem x
    after-low = pick_all (λ (n : ℕ). 1 ≤ n) (eqb x 0xe0) (λ _. omega arith) (λ _. pick_all (λ (n : ℕ). 1 ≤ n) (eqb x 0xf0) (λ _. omega arith) (λ _. omega arith))

-- ---- a turn of the loop that scans

pub scan_step : (s : Scan) (l : List ℕ) (i : ℕ) → i < length l → scan s (drop i l) ≡ scan (next s (get_or l i 0)) (drop (i + 1) l)
scan_step s l i h = ap (scan s) (drop-cons l i 0 h) ∙ ap (λ (n : ℕ). scan (next s (get_or l i 0)) (drop n l)) (sym (add-one i))

-- bytes that are code points by themselves
pub plain-all : (l : List ℕ) → list_all (within 32 126) l ≡ true → scan start l ≡ start
plain-all [] e = refl
plain-all (x ∷ l) e = rw (and_l (within 32 126 x) (list_all (within 32 126) l) e) (plain-all l (and_r (within 32 126 x) (list_all (within 32 126) l) e))

pub scan-end : (s : Scan) (l : List ℕ) (i : ℕ) → length l ≤ i → scan s (drop i l) ≡ s
scan-end s l i h = ap (scan s) (drop_of_length-le l h)

-- ---- the byte after a first byte

module _ (x y : ℕ) where
  pub record Low : Type 0 where
    pub tail : 0x80 ≤ y
    pub e0 : x ≡ 0xe0 → 0xa0 ≤ y
    pub f0 : x ≡ 0xf0 → 0x90 ≤ y

  pub record High : Type 0 where
    pub tail : y ≤ 0xbf
    pub ed : x ≡ 0xed → y ≤ 0x9f
    pub f4 : x ≡ 0xf4 → y ≤ 0x8f

  pub low-is : low_after_lem x ≤ y → Low
  low-is h = elim (ℕ_discrete x 0xe0) [
    | yes e ↦
        let k : 0xa0 ≤ y = rw (eq-eqb x 0xe0 e) at h in
        record { tail = omega arith; e0 = λ _. k; f0 = λ _. omega arith }
    | no e ↦ elim (ℕ_discrete x 0xf0) [
      | yes f ↦
          let k : 0x90 ≤ y = rw (ne_eqb x 0xe0 e, eq-eqb x 0xf0 f) at h in
          record { tail = omega arith; e0 = λ z. absurd (e z); f0 = λ _. k }
      | no f ↦
          let k : 0x80 ≤ y = rw (ne_eqb x 0xe0 e, ne_eqb x 0xf0 f) at h in
          record { tail = k; e0 = λ z. absurd (e z); f0 = λ z. absurd (f z) }
    ]
  ]

  pub low_of : Low → low_after_lem x ≤ y
  low_of w = pick_all (λ (n : ℕ). n ≤ y) (eqb x 0xe0) (λ e. w.e0 (eqb-true x 0xe0 e)) (λ _. pick_all (λ (n : ℕ). n ≤ y) (eqb x 0xf0) (λ e. w.f0 (eqb-true x 0xf0 e)) (λ _. w.tail))

  pub high_is : y ≤ high_after_lem x → High
  high_is h = elim (ℕ_discrete x 0xed) [
    | yes e ↦
        let k : y ≤ 0x9f = rw (eq-eqb x 0xed e) at h in
        record { tail = omega arith; ed = λ _. k; f4 = λ z. absurd (let w : ⊥ = omega arith in w) }
    | no e ↦ elim (ℕ_discrete x 0xf4) [
      | yes f ↦
          let k : y ≤ 0x8f = rw (ne_eqb x 0xed e, eq-eqb x 0xf4 f) at h in
          record { tail = omega arith; ed = λ z. absurd (e z); f4 = λ _. k }
      | no f ↦
          let k : y ≤ 0xbf = rw (ne_eqb x 0xed e, ne_eqb x 0xf4 f) at h in
          record { tail = k; ed = λ z. absurd (e z); f4 = λ z. absurd (f z) }
    ]
  ]

  pub high-of : High → y ≤ high_after_lem x
  high-of w = pick_all (λ (n : ℕ). y ≤ n) (eqb x 0xed) (λ e. w.ed (eqb-true x 0xed e)) (λ _. pick_all (λ (n : ℕ). y ≤ n) (eqb x 0xf4) (λ e. w.f4 (eqb-true x 0xf4 e)) (λ _. w.tail))
