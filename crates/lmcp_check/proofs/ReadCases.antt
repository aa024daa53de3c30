-- What the definitions of values, counts and heads come to, case by case. Assumes nothing.
use Rattle.wire.proofs.Basics.{◌∙◌, sym, ◌≡◌, ap, refl, subst, ℕ, ◌≤◌, ◌<◌, ◌^◌, min, List, [], ◌∷◌, true, false, length, drop, length-drop, eqb, ltb, ℤ, pos, eq-eqb, le-ltb, ne_eqb, lt-ltb, eqb-true}
use Rattle.wire.proofs.Basics.{arith}
use Rattle.wire.specs.Choice.{pick}
use Rattle.wire.specs.Bytes.{be, Number}
use Rattle.wire.proofs.Choices.{and-false, pick_all}
use Rattle.lmcp.specs.Limits.{series}
use Rattle.lmcp.specs.Run.{got, refused, Tag, tag, bad}
use Rattle.lmcp.specs.Walk.{is_null}
use Rattle.lmcp.specs.Table.{bool_kind, char_kind, Table}
use Rattle.lmcp.specs.Value.{fault, number_of}
use Rattle.lmcp.specs.Read.{typed, known, judged, read_value, read_count, read_header, read_head}
use Rattle.lmcp.proofs.WalkPlaces.{some-tag}
use Rattle.lmcp.proofs.Heads.{typed-least, known-type}

-- ---- numbers of w bytes

pub number_is : (s : List ℕ) (at w r : ℕ) → w ≤ 8 → Number s at w r → (r ≡ be w (drop at s)) × (r < 256 ^ w)
number_is s at w r h n =
    let e : min w 8 ≡ w = omega arith in
    (n.value ∙ ap (λ (k : ℕ). be k (drop at s)) e, subst (λ (k : ℕ). r < 256 ^ k) e n.fits)

-- ---- faults

module _ (k v : ℕ) where
  pub fault-bool : k ≡ bool_kind → 1 < v → 23 ≡ fault k v
  unfolding fault
  fault-bool e h = simp (eq-eqb k bool_kind e, lt-ltb 1 v h)

  pub sound-bool : k ≡ bool_kind → v ≤ 1 → 0 ≡ fault k v
  unfolding fault
  sound-bool e h = rw e (rw (le-ltb 1 v h) refl)

  pub fault-char : k ≡ char_kind → 127 < v → 27 ≡ fault k v
  unfolding fault
  fault-char e h = rw e (rw (lt-ltb 127 v h) refl)

  pub sound-char : k ≡ char_kind → v ≤ 127 → 0 ≡ fault k v
  unfolding fault
  sound-char e h = rw e (rw (le-ltb 127 v h) refl)

  pub sound-plain : (k ≡ bool_kind → ⊥) → (k ≡ char_kind → ⊥) → 0 ≡ fault k v
  unfolding fault
  sound-plain e f = simp (ne_eqb k bool_kind e, ne_eqb k char_kind f)

-- ---- values and counts

module _ (k w : ℕ) (b : List ℕ) where
  pub value-short : length b < w → read_value k w b ≡ refused 25
  unfolding read_value
  value-short h = simp (lt-ltb _ _ h)

  pub value-bad : w ≤ length b → (v n : ℕ) → v ≡ be w b → n ≡ fault k v → (n ≡ 0 → ⊥) → read_value k w b ≡ refused n
  unfolding read_value judged
  value-bad h v n e f g =
      let q : eqb (fault k (be w b)) 0 ≡ false = ne_eqb _ _ (λ z. g (f ∙ ap (fault k) e ∙ z)) in
      simp (le-ltb _ _ h, q) (ap refused (sym (f ∙ ap (fault k) e)))

  pub value-good : w ≤ length b → (v n : ℕ) (z : ℤ) → v ≡ be w b → n ≡ fault k v → n ≡ 0 → z ≡ number_of k w v → read_value k w b ≡ got (z ∷ []) (drop w b)
  unfolding read_value judged
  value-good h v n z e f g i =
      let q : eqb (fault k (be w b)) 0 ≡ true = eq-eqb _ _ (sym (f ∙ ap (fault k) e) ∙ g) in
      simp (le-ltb _ _ h, q) (ap (λ (y : ℤ). got (y ∷ []) (drop w b)) (sym (i ∙ ap (number_of k w) e)))

  pub count-short : length b < w → read_count w b ≡ bad 25
  unfolding read_count
  count-short h = simp (lt-ltb _ _ h)

  pub count-good : w ≤ length b → (n : ℕ) → n ≡ be w b → read_count w b ≡ tag n (pos n ∷ []) (drop w b)
  unfolding read_count
  count-good h n e = rw e (simp (le-ltb _ _ h))

-- ---- headers

module _ (T : Table) (t : ℕ) (b : List ℕ) where
  pub not-series : (be 8 b ≡ series → ⊥) → false ≡ known T t b
  unfolding known
  not-series h = simp (ne_eqb _ _ h)

  pub not-version : (be 2 (drop 12 b) ≡ T.version → ⊥) → false ≡ known T t b
  unfolding known
  not-version h = simp (ne_eqb _ _ h, and-false)

  pub known-typed : be 8 b ≡ series → be 2 (drop 12 b) ≡ T.version → typed T t (be 4 (drop 8 b)) ≡ known T t b
  unfolding known
  known-typed s v = simp (eq-eqb _ _ s, eq-eqb _ _ v)

-- ---- heads

module _ (T : Table) (d t : ℕ) (b : List ℕ) where
  pub head-short : length b < 1 → read_head T d t b ≡ bad 25
  unfolding read_head
  head-short h = simp (lt-ltb _ _ h)

  module _ (l : 1 ≤ length b) (e : ℕ) (q : e ≡ be 1 b) where
    pub head-odd : 1 < e → read_head T d t b ≡ bad 23
    unfolding read_head
    head-odd h = simp (le-ltb _ _ l, lt-ltb 1 (be 1 b) (rw q at h))

    pub head-null : e ≡ 0 → read_head T d t b ≡ tag 0 (pos 0 ∷ []) (drop 1 b)
    unfolding read_head
    head-null h = simp (le-ltb _ _ l, sym q ∙ h)

    module _ (h : e ≤ 1) (z : e ≡ 0 → ⊥) where
      some : read_head T d t b ≡ pick (eqb d 0) (bad 26) (read_header T t (drop 1 b))
      unfolding read_head
      some = simp (le-ltb _ _ l, le-ltb 1 (be 1 b) (rw q at h), ne_eqb (be 1 b) 0 (λ y. z (q ∙ y)))

      pub head-deep : d ≡ 0 → read_head T d t b ≡ bad 26
      head-deep g = some ∙ rw g refl

      module _ (g : d ≡ 0 → ⊥) where
        pub head-cut : length b < 15 → read_head T d t b ≡ bad 25
        unfolding read_header
        head-cut c =
            let k : length (drop 1 b) < 14 = rw length-drop (omega arith) in
            some ∙ simp (ne_eqb d 0 g, lt-ltb (length (drop 1 b)) 14 k)

        module _ (c : 15 ≤ length b) where
          enough : 14 ≤ length (drop 1 b)
          enough = rw length-drop (omega arith)

          pub head-unknown : false ≡ known T t (drop 1 b) → read_head T d t b ≡ bad 24
          unfolding read_header
          head-unknown k = some ∙ simp (ne_eqb d 0 g, le-ltb (length (drop 1 b)) 14 enough, sym k)

          pub head-known : (n : ℕ) → true ≡ known T t (drop 1 b) → n ≡ be 4 (drop 8 (drop 1 b)) → read_head T d t b ≡ tag n (pos n ∷ []) (drop 14 (drop 1 b))
          unfolding read_header
          head-known n k e = some ∙ rw e (simp (ne_eqb d 0 g, le-ltb (length (drop 1 b)) 14 enough, sym k))

-- ---- roots

pub root-some : (T : Table) (d t : ℕ) (b : List ℕ) → (be 1 b ≡ 0 → ⊥) → is_null (read_head T d t b) ≡ false
unfolding read_head read_header
root-some T d t b h =
    pick_all Full (ltb (length b) 1) (λ e. refl)
    (λ e. pick_all Full (ltb 1 (be 1 b)) (λ e. refl)
    (λ e. pick_all Full (eqb (be 1 b) 0) (λ e. absurd (h (eqb-true (be 1 b) 0 e)))
    (λ e. pick_all Full (eqb d 0) (λ e. refl)
    (λ e. pick_all Full (ltb (length (drop 1 b)) 14) (λ e. refl)
    (λ e. pick_all Full (known T t (drop 1 b))
    (λ k. some-tag (be 4 (drop 8 (drop 1 b))) (pos (be 4 (drop 8 (drop 1 b))) ∷ []) (drop 14 (drop 1 b)) (typed-least T t (be 4 (drop 8 (drop 1 b))) (known-type T t (drop 1 b) k))) (λ e. refl))))))
  where
    Full : Tag ℕ ℤ → Type 0
    Full X = is_null X ≡ false
