-- A name is good exactly when it is 1 to 63 bytes long and the encoding of allowed code points: the scan decides it. And its code points are unique.
-- Assumes nothing.
use Rattle.wire.proofs.Basics.{◌∙◌, sym, ◌≡◌, ap, refl, subst, ℕ, ◌≤◌, ◌+◌, ◌<◌, ◌-◌, suc, zero, ◌*◌, ◌%◌, ◌/◌, List, [], ◌∷◌, ◌++◌, true, false, Bool, ◌&&◌, ◌||◌, not, length, drop, get_or, eqb, ltb}
use Rattle.wire.proofs.Basics.{leb, eq-eqb, le-ltb, ne_eqb, lt-ltb, le-leb, lt-leb, leb-true, leb-false, not-suc-le-zero, ℕ_discrete, dec_le, arith}
use Rattle.wire.specs.Choice.{pick}
use Rattle.wire.proofs.Choices.{never, and_l, and_r, and-of, pick_all}
use Rattle.names.specs.Limits.{max_name}
use Rattle.names.specs.Scan.{within, tails, start, bad, low_after_lem, high_after_lem, after, first, next, scan}
use Rattle.names.specs.Name.{tail_byte, encode, encode_all, allowed, every, GoodName, good_name_lem}
use Rattle.names.specs.declared.Scan.{Scan}
use Rattle.names.proofs.Scans.{within_of, within_low, within-high, above, bad-stays, Low, High, low-is, low_of, high_is, high-of}

-- ---- allowed code points

pub record Allowed (c : ℕ) : Type 0 where
  pub shown : 32 ≤ c
  pub kept : c ≡ 127 → ⊥
  pub scalar : 0xd800 ≤ c → 0xdfff < c
  pub most : c ≤ 0x10ffff

pub allowed-is : (c : ℕ) → allowed c ≡ true → Allowed c
allowed-is c e = record {
  shown = leb-true 32 c (and_l (leb 32 c) (not (eqb c 127)) front);
  kept = λ z. never (and_r (leb 32 c) (not (eqb c 127)) front) (rw (eq-eqb c 127 z));
  scalar = λ h. elim (dec_le c 0xdfff) [
    | yes k ↦ never (and_l (ltb c 0xd800 || ltb 0xdfff c) (leb c 0x10ffff) back) (rw (le-ltb c 0xd800 h, le-ltb 0xdfff c k))
    | no k ↦ omega arith
  ];
  most = leb-true c 0x10ffff (and_r (ltb c 0xd800 || ltb 0xdfff c) (leb c 0x10ffff) back);
}
  where
    front : (leb 32 c && not (eqb c 127)) ≡ true
    front = and_l (leb 32 c && not (eqb c 127)) _ e

    back : ((ltb c 0xd800 || ltb 0xdfff c) && leb c 0x10ffff) ≡ true
    back = and_r (leb 32 c && not (eqb c 127)) _ e

pub allowed_of : (c : ℕ) → Allowed c → allowed c ≡ true
allowed_of c a = elim (dec_le 0xd800 c) [
  | yes h ↦ rw (le-leb 32 c a.shown, ne_eqb c 127 a.kept, le-ltb c 0xd800 h, lt-ltb 0xdfff c (a.scalar h), le-leb c 0x10ffff a.most)
  | no h ↦ rw (le-leb 32 c a.shown, ne_eqb c 127 a.kept, lt-ltb c 0xd800 (omega arith), le-leb c 0x10ffff a.most)
]

-- ---- the bytes of a code point, by its digits

encode_one : (c : ℕ) → c ≤ 0x7f → encode c ≡ c ∷ []
unfolding encode
encode_one c h = rw (le-leb c 0x7f h)

encode-two : (c a b : ℕ) → c ≡ a * 0x40 + b → 2 ≤ a → a < 0x20 → b < 0x40 → encode c ≡ (0xc0 + a) ∷ (0x80 + b) ∷ []
unfolding encode
encode-two c a b e l h k =
    let p : c / 0x40 ≡ a = omega arith in
    let q : c % 0x40 ≡ b = omega arith in
    rw (lt-leb c 0x7f (omega arith), le-leb c 0x7ff (omega arith), p, q)

encode-three : (c a b d : ℕ) → c ≡ a * 0x1000 + b * 0x40 + d → 0x7ff < c → a < 0x10 → b < 0x40 → d < 0x40
    → encode c ≡ (0xe0 + a) ∷ (0x80 + b) ∷ (0x80 + d) ∷ []
unfolding encode
encode-three c a b d e l h k m =
    let p : c / 0x1000 ≡ a = omega arith in
    let q : c / 0x40 % 0x40 ≡ b = omega arith in
    let r : c % 0x40 ≡ d = omega arith in
    rw (lt-leb c 0x7f (omega arith), lt-leb c 0x7ff (omega arith), le-leb c 0xffff (omega arith), p, q, r)

encode-four : (c a b d f : ℕ) → c ≡ a * 0x40000 + b * 0x1000 + d * 0x40 + f → 0xffff < c → b < 0x40 → d < 0x40 → f < 0x40
    → encode c ≡ (0xf0 + a) ∷ (0x80 + b) ∷ (0x80 + d) ∷ (0x80 + f) ∷ []
unfolding encode
encode-four c a b d f e l h k m =
    let p : c / 0x40000 ≡ a = omega arith in
    let q : c / 0x1000 % 0x40 ≡ b = omega arith in
    let r : c / 0x40 % 0x40 ≡ d = omega arith in
    let s : c % 0x40 ≡ f = omega arith in
    rw (lt-leb c 0x7f (omega arith), lt-leb c 0x7ff (omega arith), lt-leb c 0xffff (omega arith), p, q, r, s)

-- ---- bytes that are the encoding of allowed code points

pub record Points (b : List ℕ) : Type 0 where
  pub points : List ℕ
  pub encoded : b ≡ encode_all points
  pub each : every allowed points ≡ true

more : (c : ℕ) (l r : List ℕ) → encode c ≡ l → Allowed c → Points r → Points (l ++ r)
unfolding encode_all
more c l r e a p = record {
  points = c ∷ p.points;
  encoded = ap (λ (x : List ℕ). x ++ r) (sym e) ∙ ap (λ (x : List ℕ). encode c ++ x) p.encoded;
  each = and-of (allowed c) (every allowed p.points) (allowed_of c a) p.each;
}

one_point : (x : ℕ) (r : List ℕ) → 32 ≤ x → x ≤ 126 → Points r → Points (x ∷ r)
one_point x r l h p =
    more x (x ∷ []) r (encode_one x (omega arith)) (record { shown = l; kept = λ z. omega arith; scalar = λ k. omega arith; most = omega arith }) p

two-points : (x y : ℕ) (r : List ℕ) → 0xc2 ≤ x → x ≤ 0xdf → Low x y → High x y → Points r → Points (x ∷ y ∷ r)
two-points x y r l h u v p =
    let a : ℕ = x - 0xc0 in
    let b : ℕ = y - 0x80 in
    let ea : 0xc0 + a ≡ x = omega arith in
    let eb : 0x80 + b ≡ y = omega (arith, u.tail) in
    let c : ℕ = a * 0x40 + b in
    let e : encode c ≡ x ∷ y ∷ [] = encode-two c a b refl (omega arith) (omega arith) (omega (arith, v.tail)) ∙ (λ i. ea i ∷ eb i ∷ []) in
    more c (x ∷ y ∷ []) r e (record { shown = omega arith; kept = λ z. omega arith; scalar = λ k. omega (arith, v.tail); most = omega (arith, v.tail) }) p

three-points : (x y z : ℕ) (r : List ℕ) → 0xe0 ≤ x → x ≤ 0xef → Low x y → High x y → 0x80 ≤ z → z ≤ 0xbf → Points r → Points (x ∷ y ∷ z ∷ r)
three-points x y z r l h u v j k p =
    let a : ℕ = x - 0xe0 in
    let b : ℕ = y - 0x80 in
    let d : ℕ = z - 0x80 in
    let ea : 0xe0 + a ≡ x = omega arith in
    let eb : 0x80 + b ≡ y = omega (arith, u.tail) in
    let ed' : 0x80 + d ≡ z = omega arith in
    let sb : b < 0x40 = omega (arith, v.tail) in
    let c : ℕ = a * 0x1000 + b * 0x40 + d in
    let low : 0x7ff < c = elim (ℕ_discrete x 0xe0) [ yes w ↦ omega (arith, u.e0 w) | no w ↦ omega arith ] in
    let apart : 0xd800 ≤ c → 0xdfff < c = λ w. elim (ℕ_discrete x 0xed) [ yes s ↦ absurd (let t : ⊥ = omega (arith, v.ed s) in t) | no s ↦ omega arith ] in
    let e : encode c ≡ x ∷ y ∷ z ∷ [] = encode-three c a b d refl low (omega arith) sb (omega arith) ∙ (λ i. ea i ∷ eb i ∷ ed' i ∷ []) in
    more c (x ∷ y ∷ z ∷ []) r e (record { shown = omega arith; kept = λ w. omega arith; scalar = apart; most = omega arith }) p

four-points : (x y z w : ℕ) (r : List ℕ) → 0xf0 ≤ x → x ≤ 0xf4 → Low x y → High x y → 0x80 ≤ z → z ≤ 0xbf → 0x80 ≤ w → w ≤ 0xbf
    → Points r → Points (x ∷ y ∷ z ∷ w ∷ r)
four-points x y z w r l h u v j k m n p =
    let a : ℕ = x - 0xf0 in
    let b : ℕ = y - 0x80 in
    let d : ℕ = z - 0x80 in
    let f : ℕ = w - 0x80 in
    let ea : 0xf0 + a ≡ x = omega arith in
    let eb : 0x80 + b ≡ y = omega (arith, u.tail) in
    let ed' : 0x80 + d ≡ z = omega arith in
    let ef : 0x80 + f ≡ w = omega arith in
    let sb : b < 0x40 = omega (arith, v.tail) in
    let sd : d < 0x40 = omega arith in
    let sf : f < 0x40 = omega arith in
    let c : ℕ = a * 0x40000 + b * 0x1000 + d * 0x40 + f in
    let low : 0xffff < c = elim (ℕ_discrete x 0xf0) [ yes s ↦ omega (arith, u.f0 s) | no s ↦ omega arith ] in
    let top : c ≤ 0x10ffff = elim (ℕ_discrete x 0xf4) [ yes s ↦ omega (arith, v.f4 s) | no s ↦ omega arith ] in
    let e : encode c ≡ x ∷ y ∷ z ∷ w ∷ [] = encode-four c a b d f refl low sb sd sf ∙ (λ i. ea i ∷ eb i ∷ ed' i ∷ ef i ∷ []) in
    more c (x ∷ y ∷ z ∷ w ∷ []) r e (record { shown = omega arith; kept = λ s. omega arith; scalar = λ s. omega arith; most = top }) p

-- ---- what a scan that ends well has passed

abbrev Done : Scan → List ℕ → Type 0
Done s l = eqb (scan s l).left 0 ≡ true

record Next (n low high : ℕ) (r : List ℕ) : Type 0 where
  byte : ℕ
  rest : List ℕ
  is : r ≡ byte ∷ rest
  least : low ≤ byte
  most : byte ≤ high
  done : Done (tails n) rest

next-byte : (m n low high : ℕ) (r : List ℕ) → eqb m 0 ≡ false → m - 1 ≡ n → Done (record { left = m; low = low; high = high }) r → Next n low high r
next-byte m n low high [] z e d = never d z
next-byte m n low high (x ∷ r) z e d = go (within low high x) refl (subst (λ (s : Scan). Done s r) step d)
  where
    step : next (record { left = m; low = low; high = high }) x ≡ pick (within low high x) (tails n) bad
    step = rw (z, e)

    go : (b : Bool) → within low high x ≡ b → Done (pick b (tails n) bad) r → Next n low high (x ∷ r)
    go true w g = record { byte = x; rest = r; is = refl; least = within_low low high x w; most = within-high low high x w; done = g }
    go false w g = never g (ap (λ (s : Scan). eqb s.left 0) (bad-stays r))

module _ (x : ℕ) (r : List ℕ) (ih : (l : List ℕ) → length l ≤ length r → Done start l → Points l) where
  after_two_lem : 0xc2 ≤ x → x ≤ 0xdf → Done (after 1 x) r → Points (x ∷ r)
  after_two_lem l h d =
      let t : Next 0 (low_after_lem x) (high_after_lem x) r = next-byte 1 0 (low_after_lem x) (high_after_lem x) r refl refl d in
      let p : Points t.rest = ih t.rest (omega (arith, ap length t.is)) t.done in
      rw t.is (two-points x t.byte t.rest l h (low-is x t.byte t.least) (high_is x t.byte t.most) p)

  after-three : 0xe0 ≤ x → x ≤ 0xef → Done (after 2 x) r → Points (x ∷ r)
  after-three l h d =
      let t : Next 1 (low_after_lem x) (high_after_lem x) r = next-byte 2 1 (low_after_lem x) (high_after_lem x) r refl refl d in
      let u : Next 0 0x80 0xbf t.rest = next-byte 1 0 0x80 0xbf t.rest refl refl t.done in
      let p : Points u.rest = ih u.rest (omega (arith, ap length t.is, ap length u.is)) u.done in
      rw (t.is, u.is) (three-points x t.byte u.byte u.rest l h (low-is x t.byte t.least) (high_is x t.byte t.most) u.least u.most p)

  after-four : 0xf0 ≤ x → x ≤ 0xf4 → Done (after 3 x) r → Points (x ∷ r)
  after-four l h d =
      let t : Next 2 (low_after_lem x) (high_after_lem x) r = next-byte 3 2 (low_after_lem x) (high_after_lem x) r refl refl d in
      let u : Next 1 0x80 0xbf t.rest = next-byte 2 1 0x80 0xbf t.rest refl refl t.done in
      let v : Next 0 0x80 0xbf u.rest = next-byte 1 0 0x80 0xbf u.rest refl refl u.done in
      let p : Points v.rest = ih v.rest (omega (arith, ap length t.is, ap length u.is, ap length v.is)) v.done in
      rw (t.is, u.is, v.is)
      (four-points x t.byte u.byte v.byte v.rest l h (low-is x t.byte t.least) (high_is x t.byte t.most) u.least u.most v.least v.most p)

  after_first_lem : Done (first x) r → Points (x ∷ r)
  after_first_lem =
      pick_all P (within 32 126 x) (λ w d. one_point x r (within_low 32 126 x w) (within-high 32 126 x w) (ih r (omega arith) d)) λ _.
      pick_all P (within 0xc2 0xdf x) (λ w. after_two_lem (within_low 0xc2 0xdf x w) (within-high 0xc2 0xdf x w)) λ _.
      pick_all P (within 0xe0 0xef x) (λ w. after-three (within_low 0xe0 0xef x w) (within-high 0xe0 0xef x w)) λ _.
      pick_all P (within 0xf0 0xf4 x) (λ w. after-four (within_low 0xf0 0xf4 x w) (within-high 0xf0 0xf4 x w))
      (λ _ d. never d (ap (λ (s : Scan). eqb s.left 0) (bad-stays r)))
    where
      P : Scan → Type 0
      P s = Done s r → Points (x ∷ r)

nothing : (b : List ℕ) → length b ≤ 0 → Points b
unfolding encode_all
nothing [] h = record { points = []; encoded = refl; each = refl }
nothing (x ∷ b) h = absurd (not-suc-le-zero h)

one_more : (n : ℕ) → ((l : List ℕ) → length l ≤ n → Done start l → Points l) → (b : List ℕ) → length b ≤ suc n → Done start b → Points b
one_more n ih [] h d = nothing [] (omega arith)
one_more n ih (x ∷ b) h d = after_first_lem x b (λ l k e. ih l (omega arith) e) d

scan-points : (n : ℕ) (b : List ℕ) → length b ≤ n → Done start b → Points b
scan-points zero b h d = nothing b h
scan-points (suc n) b h d = one_more n (scan-points n) b h d

-- ---- and the encoding of allowed code points is passed

next_in : (m n low high y : ℕ) → eqb m 0 ≡ false → m - 1 ≡ n → low ≤ y → y ≤ high → next (record { left = m; low = low; high = high }) y ≡ tails n
next_in m n low high y z e l h = rw (z, e, within_of low high y l h)

module _ (x y : ℕ) (u : Low x y) (v : High x y) where
  second : (m n : ℕ) → eqb m 0 ≡ false → m - 1 ≡ n → next (after m x) y ≡ tails n
  second m n z e = next_in m n (low_after_lem x) (high_after_lem x) y z e (low_of x y u) (high-of x y v)

  scan-two : 0xc2 ≤ x → x ≤ 0xdf → (r : List ℕ) → scan start (x ∷ y ∷ r) ≡ scan start r
  scan-two l h r =
      let f : first x ≡ after 1 x = rw (above 32 126 x (omega arith), within_of 0xc2 0xdf x l h) in
      ap (λ (s : Scan). scan s (y ∷ r)) f ∙ ap (λ (s : Scan). scan s r) (second 1 0 refl refl)

  scan-three : 0xe0 ≤ x → x ≤ 0xef → (z : ℕ) → 0x80 ≤ z → z ≤ 0xbf → (r : List ℕ) → scan start (x ∷ y ∷ z ∷ r) ≡ scan start r
  scan-three l h z j k r =
      let f : first x ≡ after 2 x = rw (above 32 126 x (omega arith), above 0xc2 0xdf x (omega arith), within_of 0xe0 0xef x l h) in
      ap (λ (s : Scan). scan s (y ∷ z ∷ r)) f
      ∙ ap (λ (s : Scan). scan s (z ∷ r)) (second 2 1 refl refl)
      ∙ ap (λ (s : Scan). scan s r) (next_in 1 0 0x80 0xbf z refl refl j k)

  scan-four : 0xf0 ≤ x → x ≤ 0xf4 → (z w : ℕ) → 0x80 ≤ z → z ≤ 0xbf → 0x80 ≤ w → w ≤ 0xbf → (r : List ℕ) → scan start (x ∷ y ∷ z ∷ w ∷ r) ≡ scan start r
  scan-four l h z w j k m n r =
      let f : first x ≡ after 3 x = rw (above 32 126 x (omega arith), above 0xc2 0xdf x (omega arith), above 0xe0 0xef x (omega arith), within_of 0xf0 0xf4 x l h) in
      ap (λ (s : Scan). scan s (y ∷ z ∷ w ∷ r)) f
      ∙ ap (λ (s : Scan). scan s (z ∷ w ∷ r)) (second 3 2 refl refl)
      ∙ ap (λ (s : Scan). scan s (w ∷ r)) (next_in 2 1 0x80 0xbf z refl refl j k)
      ∙ ap (λ (s : Scan). scan s r) (next_in 1 0 0x80 0xbf w refl refl m n)

module _ (c : ℕ) (a : Allowed c) (r : List ℕ) where
  low-two : 0x7f < c → c ≤ 0x7ff → scan start ((0xc0 + c / 0x40) ∷ tail_byte c ∷ r) ≡ scan start r
  low-two l h =
      scan-two (0xc0 + c / 0x40) (tail_byte c)
      (record { tail = omega arith; e0 = λ z. omega arith; f0 = λ z. omega arith })
      (record { tail = omega arith; ed = λ z. omega arith; f4 = λ z. omega arith })
      (omega arith) (omega arith) r

  low-three : 0x7ff < c → c ≤ 0xffff → scan start ((0xe0 + c / 0x1000) ∷ tail_byte (c / 0x40) ∷ tail_byte c ∷ r) ≡ scan start r
  low-three l h =
      scan-three (0xe0 + c / 0x1000) (tail_byte (c / 0x40))
      (record { tail = omega arith; e0 = λ z. omega arith; f0 = λ z. omega arith })
      (record { tail = omega arith; ed = λ z. elim (dec_le 0xd800 c) [ yes s ↦ omega (arith, a.scalar s) | no s ↦ omega arith ]; f4 = λ z. omega arith })
      (omega arith) (omega arith) (tail_byte c) (omega arith) (omega arith) r

  low-four : 0xffff < c → scan start ((0xf0 + c / 0x40000) ∷ tail_byte (c / 0x1000) ∷ tail_byte (c / 0x40) ∷ tail_byte c ∷ r) ≡ scan start r
  low-four l =
      let m : c ≤ 0x10ffff = a.most in
      scan-four (0xf0 + c / 0x40000) (tail_byte (c / 0x1000))
      (record { tail = omega arith; e0 = λ z. omega arith; f0 = λ z. omega arith })
      (record { tail = omega arith; ed = λ z. omega arith; f4 = λ z. omega arith })
      (omega arith) (omega arith) (tail_byte (c / 0x40)) (tail_byte c) (omega arith) (omega arith) (omega arith) (omega arith) r

  pub scan-encode : scan start (encode c ++ r) ≡ scan start r
  unfolding encode
  scan-encode =
      pick_all P (leb c 0x7f) (λ e. ap (λ (s : Scan). scan s r) (one (leb-true c 0x7f e))) λ e.
      pick_all P (leb c 0x7ff) (λ f. low-two (leb-false c 0x7f e) (leb-true c 0x7ff f)) λ f.
      pick_all P (leb c 0xffff) (λ g. low-three (leb-false c 0x7ff f) (leb-true c 0xffff g)) (λ g. low-four (leb-false c 0xffff g))
    where
      P : List ℕ → Type 0
      P l = scan start (l ++ r) ≡ scan start r

      one : c ≤ 0x7f → first c ≡ start
      one h = rw (within_of 32 126 c a.shown (elim (dec_le c 126) [ yes k ↦ k | no k ↦ absurd (a.kept (omega arith)) ]))

scan-all : (cs : List ℕ) → every allowed cs ≡ true → scan start (encode_all cs) ≡ start
unfolding encode_all
scan-all [] e = refl
scan-all (c ∷ cs) e =
    scan-encode c (allowed-is c (and_l (allowed c) (every allowed cs) e)) (encode_all cs) ∙ scan-all cs (and_r (allowed c) (every allowed cs) e)

-- ---- the two say the same, for every byte string

pub good-name : (name : List ℕ) → good_name_lem name ≡ true → GoodName name
unfolding good_name_lem
good-name name e =
    let w = and_r (leb 1 (length name)) _ e in
    let p : Points name = scan-points (length name) name (omega arith) (and_r (leb (length name) max_name) _ w) in
    record {
      points = p.points;
      encoded = p.encoded;
      each = p.each;
      least = leb-true 1 (length name) (and_l (leb 1 (length name)) _ e);
      most = leb-true (length name) max_name (and_l (leb (length name) max_name) _ w);
    }

pub name-good : (name : List ℕ) → GoodName name → good_name_lem name ≡ true
unfolding good_name_lem
name-good name g =
    let s : scan start name ≡ start = ap (scan start) g.encoded ∙ scan-all g.points g.each in
    rw (le-leb 1 (length name) g.least, le-leb (length name) max_name g.most, s)

-- ---- the code points of a name are unique: each can be read off its bytes, with what follows it

abbrev point_in : List ℕ → ℕ
point_in b =
    pick (leb (get_or b 0 0) 0x7f) (get_or b 0 0)
    (pick (leb (get_or b 0 0) 0xdf) (get_or b 0 0 % 0x20 * 0x40 + get_or b 1 0 % 0x40)
    (pick (leb (get_or b 0 0) 0xef) (get_or b 0 0 % 0x10 * 0x1000 + get_or b 1 0 % 0x40 * 0x40 + get_or b 2 0 % 0x40)
    (get_or b 0 0 % 0x8 * 0x40000 + get_or b 1 0 % 0x40 * 0x1000 + get_or b 2 0 % 0x40 * 0x40 + get_or b 3 0 % 0x40)))

abbrev rest_in : List ℕ → List ℕ
rest_in b = drop (pick (leb (get_or b 0 0) 0x7f) 1 (pick (leb (get_or b 0 0) 0xdf) 2 (pick (leb (get_or b 0 0) 0xef) 3 4))) b

digits : (c q s t b d f : ℕ) → c ≡ q * 0x40 + f → q ≡ s * 0x40 + d → s ≡ t * 0x40 + b → t * 0x40000 + b * 0x1000 + d * 0x40 + f ≡ c
digits c q s t b d f x y z = omega arith

tail-digit : (x : ℕ) → tail_byte x % 0x40 ≡ x % 0x40
tail-digit x = omega arith

four-digits : (c : ℕ) → c ≤ 0x10ffff
    → (0xf0 + c / 0x40000) % 0x8 * 0x40000 + tail_byte (c / 0x1000) % 0x40 * 0x1000 + tail_byte (c / 0x40) % 0x40 * 0x40 + tail_byte c % 0x40 ≡ c
four-digits c m =
    let a : (0xf0 + c / 0x40000) % 0x8 ≡ c / 0x40000 = omega arith in
    let s : c / 0x1000 ≡ c / 0x40000 * 0x40 + c / 0x1000 % 0x40 = omega arith in
    let q : c / 0x40 ≡ c / 0x1000 * 0x40 + c / 0x40 % 0x40 = omega arith in
    let w : c ≡ c / 0x40 * 0x40 + c % 0x40 = omega arith in
    (λ i. a i * 0x40000 + tail-digit (c / 0x1000) i * 0x1000 + tail-digit (c / 0x40) i * 0x40 + tail-digit c i)
    ∙ digits c (c / 0x40) (c / 0x1000) (c / 0x40000) (c / 0x1000 % 0x40) (c / 0x40 % 0x40) (c % 0x40) w q s

read_off : (c : ℕ) → c ≤ 0x10ffff → (r : List ℕ) → (point_in (encode c ++ r) ≡ c) × (rest_in (encode c ++ r) ≡ r)
unfolding encode
read_off c m r =
    pick_all P (leb c 0x7f) (λ e. rw e (refl, refl)) λ e.
    pick_all P (leb c 0x7ff) (λ f. two (leb-false c 0x7f e) (leb-true c 0x7ff f)) λ f.
    pick_all P (leb c 0xffff) (λ g. three (leb-false c 0x7ff f) (leb-true c 0xffff g)) (λ g. four (leb-false c 0xffff g))
  where
    P : List ℕ → Type 0
    P l = (point_in (l ++ r) ≡ c) × (rest_in (l ++ r) ≡ r)

    two : 0x7f < c → c ≤ 0x7ff → P ((0xc0 + c / 0x40) ∷ tail_byte c ∷ [])
    two l h = rw (lt-leb (0xc0 + c / 0x40) 0x7f (omega arith), le-leb (0xc0 + c / 0x40) 0xdf (omega arith)) (omega arith, refl)

    three : 0x7ff < c → c ≤ 0xffff → P ((0xe0 + c / 0x1000) ∷ tail_byte (c / 0x40) ∷ tail_byte c ∷ [])
    three l h =
        rw (lt-leb (0xe0 + c / 0x1000) 0x7f (omega arith), lt-leb (0xe0 + c / 0x1000) 0xdf (omega arith), le-leb (0xe0 + c / 0x1000) 0xef (omega arith))
        (omega arith, refl)

    four : 0xffff < c → P ((0xf0 + c / 0x40000) ∷ tail_byte (c / 0x1000) ∷ tail_byte (c / 0x40) ∷ tail_byte c ∷ [])
    four l =
        rw (lt-leb (0xf0 + c / 0x40000) 0x7f (omega arith), lt-leb (0xf0 + c / 0x40000) 0xdf (omega arith), lt-leb (0xf0 + c / 0x40000) 0xef (omega arith))
        (four-digits c m, refl)

encode-some : (c : ℕ) (r : List ℕ) → encode c ++ r ≡ [] → ⊥
unfolding encode
encode-some c r =
    pick_all P (leb c 0x7f) (λ _ e. omega (arith, ap length e)) λ _.
    pick_all P (leb c 0x7ff) (λ _ e. omega (arith, ap length e)) λ _.
    pick_all P (leb c 0xffff) (λ _ e. omega (arith, ap length e)) (λ _ e. omega (arith, ap length e))
  where
    P : List ℕ → Type 0
    P l = l ++ r ≡ [] → ⊥

pub points-once : (cs ds : List ℕ) → every allowed cs ≡ true → every allowed ds ≡ true → encode_all cs ≡ encode_all ds → cs ≡ ds
unfolding encode_all
points-once [] [] p q e = refl
points-once [] (d ∷ ds) p q e = absurd (encode-some d (encode_all ds) (sym e))
points-once (c ∷ cs) [] p q e = absurd (encode-some c (encode_all cs) e)
points-once (c ∷ cs) (d ∷ ds) p q e =
    let x = read_off c (allowed-is c (and_l (allowed c) (every allowed cs) p)).most (encode_all cs) in
    let y = read_off d (allowed-is d (and_l (allowed d) (every allowed ds) q)).most (encode_all ds) in
    let h : c ≡ d = sym x.0 ∙ ap point_in e ∙ y.0 in
    let t : encode_all cs ≡ encode_all ds = sym x.1 ∙ ap rest_in e ∙ y.1 in
    let u : cs ≡ ds = points-once cs ds (and_r (allowed c) (every allowed cs) p) (and_r (allowed d) (every allowed ds) q) t in
    λ i. h i ∷ u i
