-- The number list of every accepted PitList, in either version, is spelled tile, count, marks. Assumes nothing.
use Rattle.wire.proofs.Basics.{◌∙◌, sym, ◌≡◌, ap, refl, subst, ℕ, ◌≤◌, ◌<◌, ◌-◌, suc, zero, ◌^◌, List, [], ◌∷◌, ◌++◌, append-nil, true, false, Bool, ◌&&◌, ◌||◌, inl, inr, ◌⊎◌, length, drop, get_or, eqb}
use Rattle.wire.proofs.Basics.{ltb, ℤ, pos, eqb-true, ltb-false, ℕ_discrete, arith}
use lib.Dec.{eqb-suc-zero}
use Rattle.wire.specs.Choice.{pick}
use Rattle.wire.specs.Bytes.{be, Bytes}
use Rattle.wire.proofs.Choices.{pick_all, and_r}
use Rattle.wire.proofs.Numbers.{be-lt}
use Rattle.lmcp.specs.declared.Row.{Row}
use Rattle.lmcp.specs.Limits.{deepest}
use Rattle.lmcp.specs.Run.{got, refused, Tag, tag, bad, prepend, and_then, after, repeat, whole}
use Rattle.lmcp.specs.Table.{Table, second, types_of, pitsurv, fields_of, object_kind, int32, int16, uint32, bool, object_of, array_of}
use Rattle.lmcp.specs.Table as table
use Rattle.lmcp.specs.Value.{fault, number_of}
use Rattle.lmcp.specs.Read.{Read, judged, read_value, read_count, typed, known, read_header, read_head, reading}
use Rattle.lmcp.specs.Walk.{item, field, fields, is_null, object, root}
use Rattle.lmcp.specs.Message.{frame, root_of, read_message_lem}
use Rattle.lmcp.specs.Lists.{version_of_lem, read_as, read_list}
use Rattle.lmcp.specs.Spelled.{Spot, nowhere, spot, Element, null, marked, spell_spot, spell_element, spell_all, Spelled, PitKeeps, PitsKeep, SpelledBy}
use Rattle.lmcp.proofs.Undo.{prepended}
use Rattle.lmcp.proofs.Heads.{known-type}
use Rattle.lmcp.proofs.Values.{bytes_drop}
use Rattle.lmcp.proofs.Trips.{bytes_take}
use Rattle.lmcp.proofs.Editions.{version-is}

-- ---- what is got keeps to P; what is left keeps to B, as it does after any number of bytes, and so a number of 4 bytes keeps to S

module _ (B : List ℕ → Type 0) (S : ℕ → Type 0) (drops : (k : ℕ) (b : List ℕ) → B b → B (drop k b)) (small : (b : List ℕ) → B b → S (be 4 b)) where
  abbrev Gets : (List ℤ → Type 0) → Read → Type 0
  Gets P (got zs r) = P zs × B r
  Gets P (refused n) = Unit {0}

  abbrev Tagged : (ℕ → List ℤ → Type 0) → Tag ℕ ℤ → Type 0
  Tagged Q (tag n ys r) = Q n ys × B r
  Tagged Q (bad n) = Unit {0}

  gets_more : (P Q : List ℤ → Type 0) → ((zs : List ℤ) → P zs → Q zs) → (X : Read) → Gets P X → Gets Q X
  gets_more P Q h (got zs r) g = (h zs g.0, g.1)
  gets_more P Q h (refused n) g = tt

  gets-prepend : (P : List ℤ → Type 0) (ys : List ℤ) (X : Read) → Gets (λ zs. P (ys ++ zs)) X → Gets P (prepend ys X)
  unfolding prepend
  gets-prepend P ys (got zs r) g = g
  gets-prepend P ys (refused n) g = tt

  gets_then : (Q P : List ℤ → Type 0) (X : Read) (k : List ℕ → Read) → Gets Q X → ((ys : List ℤ) (r : List ℕ) → Q ys → B r → Gets (λ zs. P (ys ++ zs)) (k r)) → Gets P (and_then X k)
  unfolding and_then
  gets_then Q P (got ys r) k g h = gets-prepend P ys (k r) (h ys r g.0 g.1)
  gets_then Q P (refused n) k g h = tt

  gets_after : (Q : ℕ → List ℤ → Type 0) (P : List ℤ → Type 0) (t : Tag ℕ ℤ) (k : ℕ → List ℕ → Read)
      → Tagged Q t → ((n : ℕ) (ys : List ℤ) (r : List ℕ) → Q n ys → B r → Gets (λ zs. P (ys ++ zs)) (k n r)) → Gets P (after t k)
  unfolding after
  gets_after Q P (tag n ys r) k g h = gets-prepend P ys (k n r) (h n ys r g.0 g.1)
  gets_after Q P (bad n) k g h = tt

  -- what is got keeps to P, whatever is left
  abbrev Makes : (List ℤ → Type 0) → Read → Type 0
  Makes P (got zs r) = P zs
  Makes P (refused n) = Unit {0}

  makes-all : (P : List ℤ → Type 0) → ((zs : List ℤ) → P zs) → (X : Read) → Makes P X
  makes-all P h (got zs r) = h zs
  makes-all P h (refused n) = tt

  makes-more : (P Q : List ℤ → Type 0) → ((zs : List ℤ) → P zs → Q zs) → (X : Read) → Gets P X → Makes Q X
  makes-more P Q h (got zs r) g = h zs g.0
  makes-more P Q h (refused n) g = tt

  makes-prepend : (P : List ℤ → Type 0) (ys : List ℤ) (X : Read) → Makes (λ zs. P (ys ++ zs)) X → Makes P (prepend ys X)
  unfolding prepend
  makes-prepend P ys (got zs r) g = g
  makes-prepend P ys (refused n) g = tt

  makes-after : (Q : ℕ → List ℤ → Type 0) (P : List ℤ → Type 0) (t : Tag ℕ ℤ) (k : ℕ → List ℕ → Read)
      → Tagged Q t → ((n : ℕ) (ys : List ℤ) (r : List ℕ) → Q n ys → B r → Makes (λ zs. P (ys ++ zs)) (k n r)) → Makes P (after t k)
  unfolding after
  makes-after Q P (tag n ys r) k g h = makes-prepend P ys (k n r) (h n ys r g.0 g.1)
  makes-after Q P (bad n) k g h = tt

  makes-whole : (P : List ℤ → Type 0) (X : Read) → Makes P X → Makes P (whole X)
  unfolding whole
  makes-whole P (got zs []) g = g
  makes-whole P (got zs (x ∷ r)) g = tt
  makes-whole P (refused n) g = tt

  -- ---- values, counts, heads

  record Number (ys : List ℤ) : Type 0 where
    z : ℤ
    is : ys ≡ z ∷ []

  record Plain (ys : List ℤ) : Type 0 where
    v : ℕ
    is : ys ≡ pos v ∷ []
    keeps : S v

  record Truth (ys : List ℤ) : Type 0 where
    s : Bool
    is : ys ≡ pos (pick s 1 0) ∷ []

  number : (k w : ℕ) (b : List ℕ) → B b → Gets Number (read_value k w b)
  unfolding read_value judged
  number k w b o =
      pick_all (Gets Number) (ltb (length b) w) (λ e. tt)
      (λ e. pick_all (Gets Number) (eqb (fault k (be w b)) 0) (λ e. (record { z = number_of k w (be w b); is = refl }, drops w b o)) (λ e. tt))

  plain : (b : List ℕ) → B b → Gets Plain (read_value 0 4 b)
  unfolding read_value judged number_of
  plain b o =
      pick_all (Gets Plain) (ltb (length b) 4) (λ e. tt)
      (λ e. pick_all (Gets Plain) (eqb (fault 0 (be 4 b)) 0) (λ e. (record { v = be 4 b; is = refl; keeps = small b o }, drops 4 b o)) (λ e. tt))

  truth-of : (v : ℕ) → v ≤ 1 → Truth (pos v ∷ [])
  truth-of zero h = record { s = false; is = refl }
  truth-of (suc zero) h = record { s = true; is = refl }
  truth-of (suc (suc v)) h = absurd (let z : ⊥ = omega arith in z)

  zero-or-one : (v : ℕ) → fault 2 v ≡ 0 → v ≤ 1
  unfolding fault
  zero-or-one v e = go (ltb 1 v) refl e
    where
      go : (b : Bool) → ltb 1 v ≡ b → ◌≡◌ {A = ℕ} (pick b 23 0) 0 → v ≤ 1
      go true p q = absurd (let z : ⊥ = omega arith in z)
      go false p q = ltb-false 1 v p

  truth : (w : ℕ) (b : List ℕ) → B b → Gets Truth (read_value 2 w b)
  unfolding read_value judged number_of
  truth w b o =
      pick_all (Gets Truth) (ltb (length b) w) (λ e. tt)
      (λ e. pick_all (Gets Truth) (eqb (fault 2 (be w b)) 0) (λ e. (truth-of (be w b) (zero-or-one (be w b) (eqb-true (fault 2 (be w b)) 0 e)), drops w b o)) (λ e. tt))

  abbrev Counts : ℕ → List ℤ → Type 0
  Counts n ys = ys ≡ pos n ∷ []

  counts : (w : ℕ) (b : List ℕ) → B b → Tagged Counts (read_count w b)
  unfolding read_count
  counts w b o = pick_all (Tagged Counts) (ltb (length b) w) (λ e. tt) (λ e. (refl, drops w b o))

  -- a type that may stand where t is declared, or null
  record Heads (T : Table) (t n : ℕ) (ys : List ℤ) : Type 0 where
    is : ys ≡ pos n ∷ []
    may : (n ≡ 0) ⊎ (typed T t n ≡ true)

  heads : (T : Table) (d t : ℕ) (b : List ℕ) → B b → Tagged (Heads T t) (read_head T d t b)
  unfolding read_head read_header
  heads T d t b o =
      pick_all (Tagged (Heads T t)) (ltb (length b) 1) (λ e. tt)
      (λ e. pick_all (Tagged (Heads T t)) (ltb 1 (be 1 b)) (λ e. tt)
      (λ e. pick_all (Tagged (Heads T t)) (eqb (be 1 b) 0) (λ e. (record { is = refl; may = inl refl }, drops 1 b o))
      (λ e. pick_all (Tagged (Heads T t)) (eqb d 0) (λ e. tt)
      (λ e. pick_all (Tagged (Heads T t)) (ltb (length (drop 1 b)) 14) (λ e. tt)
      (λ e. pick_all (Tagged (Heads T t)) (known T t (drop 1 b)) (λ e. (record { is = refl; may = inr (known-type T t (drop 1 b) e) }, drops 14 (drop 1 b) (drops 1 b o))) (λ e. tt))))))

  -- where a type is declared, it is that one
  declared : (T : Table) (t n : ℕ) → typed T (suc t) n ≡ true → n ≡ suc t
  unfolding typed
  declared T t n e =
      let q : (eqb (suc t) 0 || eqb n (suc t)) ≡ true = and_r (ltb 0 n && ltb n (length T.types)) (eqb (suc t) 0 || eqb n (suc t)) e in
      eqb-true n (suc t) (rw (eqb-suc-zero t) at q)

  -- ---- fields and objects of our table, of a version v and an edition

  module _ (v : ℕ) (two : Bool) where
    abbrev T : Table
    T = record { version = v; types = types_of two }

    abbrev inner : ℕ → ℕ → List ℕ → Read
    inner d = object (reading T) T d

    record IsSpot (zs : List ℤ) : Type 0 where
      e : Spot
      is : zs ≡ spell_spot e

    record IsElement (zs : List ℤ) : Type 0 where
      e : Element
      is : zs ≡ spell_element two e
      keeps : PitKeeps S e

    record Many (n : ℕ) (zs : List ℤ) : Type 0 where
      es : List Element
      many : length es ≡ n
      is : zs ≡ spell_all two es
      keep : PitsKeep S es

    -- elements after their count
    record Array (zs : List ℤ) : Type 0 where
      es : List Element
      is : zs ≡ pos (length es) ∷ spell_all two es
      keep : PitsKeep S es

    record IsList (zs : List ℤ) : Type 0 where
      tile : ℕ
      es : List Element
      is : zs ≡ pos 5 ∷ pos tile ∷ pos (length es) ∷ spell_all two es
      keeps : S tile
      keep : PitsKeep S es

    gets-repeat : (f : List ℕ → Read) → ((l : List ℕ) → B l → Gets IsElement (f l)) → (n : ℕ) (l : List ℕ) → B l → Gets (Many n) (repeat n f l)
    unfolding repeat
    gets-repeat f h zero l o = (record { es = []; many = refl; is = refl; keep = tt }, o)
    gets-repeat f h (suc n) l o =
        gets_then IsElement (Many (suc n)) (f l) (repeat n f) (h l o)
        (λ ys r a p. gets_more (Many n) (λ zs. Many (suc n) (ys ++ zs)) (λ zs m. record { es = a.e ∷ m.es; many = ap suc m.many; is = λ i. a.is i ++ m.is i; keep = (a.keeps, m.keep) }) (repeat n f r) (gets-repeat f h n r p))

    module _ (obj : ℕ → List ℕ → Read) where
      -- a field of one element
      field-one : (Q : List ℤ → Type 0) (k a : ℕ) → ((l : List ℕ) → B l → Gets Q (item (reading T) obj (table.one k a) l)) → (l : List ℕ) → B l → Gets Q (field (reading T) obj (table.one k a) l)
      unfolding field repeat
      field-one Q k a h l o = gets_then Q Q (item (reading T) obj (table.one k a) l) (got []) (h l o) (λ ys r q p. (subst Q (sym (append-nil ys)) q, p))

      -- one field, then the others
      fields-cons : (Q P : List ℤ → Type 0) (f : Row) (fs : List Row) (l : List ℕ) → Gets Q (field (reading T) obj f l)
          → ((ys : List ℤ) (r : List ℕ) → Q ys → B r → Gets (λ zs. P (ys ++ zs)) (fields (reading T) obj fs r)) → Gets P (fields (reading T) obj (f ∷ fs) l)
      unfolding fields
      fields-cons Q P f fs l g h = gets_then Q P (field (reading T) obj f l) (fields (reading T) obj fs) g h

      no_fields : (P : List ℤ → Type 0) (l : List ℕ) → P [] → B l → Gets P (fields (reading T) obj [] l)
      unfolding fields
      no_fields P l p o = (p, o)

      field-number : (k a : ℕ) → eqb k object_kind ≡ false → (l : List ℕ) → B l → Gets Number (field (reading T) obj (table.one k a) l)
      unfolding item
      field-number k a e = field-one Number k a (λ l o. rw e (number k a l o))

      field_plain : (l : List ℕ) → B l → Gets Plain (field (reading T) obj (table.one 0 4) l)
      unfolding item
      field_plain = field-one Plain 0 4 (λ l o. plain l o)

      field-truth : (a : ℕ) (l : List ℕ) → B l → Gets Truth (field (reading T) obj (table.one 2 a) l)
      unfolding item
      field-truth a = field-one Truth 2 a (λ l o. truth a l o)

      field-object : (Q : List ℤ → Type 0) (t : ℕ) → ((l : List ℕ) → B l → Gets Q (obj t l)) → (l : List ℕ) → B l → Gets Q (field (reading T) obj (table.one object_kind t) l)
      unfolding item
      field-object Q t h = field-one Q object_kind t h

      -- a variable array of marks, its count in w bytes
      field_array : (w : ℕ) → eqb w 0 ≡ false → ((l : List ℕ) → B l → Gets IsElement (obj 4 l)) → (l : List ℕ) → B l → Gets Array (field (reading T) obj (array_of w (object_of 4)) l)
      unfolding field item
      field_array w some h l o =
          rw some
          (gets_after Counts Array (read_count w l) (λ n. repeat n (obj 4)) (counts w l o)
          (λ n ys r q p. gets_more (Many n) (λ zs. Array (ys ++ zs))
          (λ zs m. record { es = m.es; is = λ i. (q ∙ ap (λ (k : ℕ). pos k ∷ []) (sym m.many)) i ++ m.is i; keep = m.keep }) (repeat n (obj 4) r) (gets-repeat (obj 4) h n r p)))

      -- the fields of an object that is null or of a declared type
      by-type : (P : List ℤ → Type 0) (t : ℕ) → P (pos 0 ∷ []) → ((r : List ℕ) → B r → Gets (λ zs. P (pos (suc t) ∷ zs)) (fields (reading T) obj (fields_of T (suc t)) r))
          → (n : ℕ) (ys : List ℤ) (r : List ℕ) → Heads T (suc t) n ys → B r → Gets (λ zs. P (ys ++ zs)) (fields (reading T) obj (fields_of T n) r)
      by-type P t none some n ys r h o = by h.may
        where
          at : (m : ℕ) → n ≡ m → Gets (λ zs. P ((pos m ∷ []) ++ zs)) (fields (reading T) obj (fields_of T m) r) → Gets (λ zs. P (ys ++ zs)) (fields (reading T) obj (fields_of T n) r)
          at m e g =
              subst (λ (l : List ℤ). Gets (λ zs. P (l ++ zs)) (fields (reading T) obj (fields_of T n) r)) (sym h.is)
              (subst (λ (j : ℕ). Gets (λ zs. P ((pos j ∷ []) ++ zs)) (fields (reading T) obj (fields_of T j) r)) (sym e) g)

          by : (n ≡ 0) ⊎ (typed T (suc t) n ≡ true) → Gets (λ zs. P (ys ++ zs)) (fields (reading T) obj (fields_of T n) r)
          by (inl e) = at 0 e (no_fields (λ zs. P ((pos 0 ∷ []) ++ zs)) r none o)
          by (inr e) = at (suc t) (declared T t n e) (some r o)

    spots : (d : ℕ) (l : List ℕ) → B l → Gets IsSpot (object (reading T) T (suc d) 2 l)
    unfolding object
    spots d l o =
        gets_after (Heads T 2) IsSpot (read_head T (suc d) 2 l) (λ n. fields (reading T) (inner d) (fields_of T n)) (heads T (suc d) 2 l o)
        (by-type (inner d) IsSpot 1 (record { e = nowhere; is = refl })
        (λ r p. fields-cons (inner d) Number (λ zs. IsSpot (pos 2 ∷ zs)) int32 (int32 ∷ int16 ∷ []) r (field-number (inner d) 1 4 refl r p)
        (λ us r₁ a p₁. fields-cons (inner d) Number (λ zs. IsSpot (pos 2 ∷ (us ++ zs))) int32 (int16 ∷ []) r₁ (field-number (inner d) 1 4 refl r₁ p₁)
        (λ vs r₂ b p₂. fields-cons (inner d) Number (λ zs. IsSpot (pos 2 ∷ (us ++ (vs ++ zs)))) int16 [] r₂ (field-number (inner d) 1 2 refl r₂ p₂)
        (λ ws r₃ c p₃. no_fields (inner d) (λ zs. IsSpot (pos 2 ∷ (us ++ (vs ++ (ws ++ zs))))) r₃
        (record { e = spot a.z b.z c.z; is = λ i. pos 2 ∷ (a.is i ++ (b.is i ++ (c.is i ++ []))) }) p₃)))))

    -- PitMark's fields behind its place: none, or a depth
    depths : (obj : ℕ → List ℕ → Read) (t : Bool) (P : List ℤ → Type 0) → ((z : ℤ) → P (pick t (z ∷ []) [])) → (r : List ℕ) → B r → Gets P (fields (reading T) obj (pick t (int16 ∷ []) []) r)
    depths obj true P h r o =
        fields-cons obj Number P int16 [] r (field-number obj 1 2 refl r o) (λ ys s a p. no_fields obj (λ zs. P (ys ++ zs)) s (subst (λ (l : List ℤ). P (l ++ [])) (sym a.is) (h a.z)) p)
    depths obj false P h r o = no_fields obj P r (h (pos 0)) o

    elements : (d : ℕ) (l : List ℕ) → B l → Gets IsElement (object (reading T) T (suc (suc d)) 4 l)
    unfolding object
    elements d l k =
        let o = inner (suc d) in
        gets_after (Heads T 4) IsElement (read_head T (suc (suc d)) 4 l) (λ n. fields (reading T) o (fields_of T n)) (heads T (suc (suc d)) 4 l k)
        (by-type o IsElement 3 (record { e = null; is = refl; keeps = tt })
        (λ r p. fields-cons o Plain (λ zs. IsElement (pos 4 ∷ zs)) uint32 (bool ∷ object_of 2 ∷ pick two (int16 ∷ []) []) r (field_plain o r p)
        (λ us r₁ a p₁. fields-cons o Truth (λ zs. IsElement (pos 4 ∷ (us ++ zs))) bool (object_of 2 ∷ pick two (int16 ∷ []) []) r₁ (field-truth o 1 r₁ p₁)
        (λ vs r₂ b p₂. fields-cons o IsSpot (λ zs. IsElement (pos 4 ∷ (us ++ (vs ++ zs)))) (object_of 2) (pick two (int16 ∷ []) []) r₂ (field-object o IsSpot 2 (spots d) r₂ p₂)
        (λ ws r₃ c p₃. depths o two (λ zs. IsElement (pos 4 ∷ (us ++ (vs ++ (ws ++ zs)))))
        (λ z. record { e = marked a.v b.s c.e z; is = λ i. pos 4 ∷ (a.is i ++ (b.is i ++ (c.is i ++ pick two (z ∷ []) []))); keeps = a.keeps }) r₃ p₃)))))

    counted : (t : Bool) → eqb (pick t 4 2) 0 ≡ false
    counted true = refl
    counted false = refl

    -- a root of type 5 is a PitList
    abbrev IfList : List ℤ → Type 0
    IfList zs = get_or zs 0 (pos 0) ≡ pos 5 → IsList zs

    lists : (d : ℕ) (l : List ℕ) → B l → Makes IfList (object (reading T) T (suc (suc (suc d))) 0 l)
    unfolding object
    lists d l k =
        makes-after (Heads T 0) IfList (read_head T (suc (suc (suc d))) 0 l) (λ n. fields (reading T) o (fields_of T n)) (heads T (suc (suc (suc d))) 0 l k)
        (λ n ys r q p. by n ys r q.is p)
      where
        o : ℕ → List ℕ → Read
        o = inner (suc (suc d))

        five : (r : List ℕ) → B r → Gets (λ zs. IsList (pos 5 ∷ zs)) (fields (reading T) (inner (suc (suc d))) (fields_of T 5) r)
        five r p =
            let o = inner (suc (suc d)) in
            fields-cons o Plain (λ zs. IsList (pos 5 ∷ zs)) uint32 (array_of (pick two 4 2) (object_of 4) ∷ []) r (field_plain o r p)
            (λ us r₁ a p₁. fields-cons o Array (λ zs. IsList (pos 5 ∷ (us ++ zs))) (array_of (pick two 4 2) (object_of 4)) [] r₁ (field_array o (pick two 4 2) (counted two) (elements d) r₁ p₁)
            (λ vs r₂ b p₂. no_fields o (λ zs. IsList (pos 5 ∷ (us ++ (vs ++ zs)))) r₂
            (record {
              tile = a.v;
              es = b.es;
              is =
                  (λ i. pos 5 ∷ (a.is i ++ (b.is i ++ [])))
                  ∙ ap (λ (m : List ℤ). pos 5 ∷ pos a.v ∷ pos (length b.es) ∷ m) (append-nil (spell_all two b.es));
              keeps = a.keeps;
              keep = b.keep;
            }) p₂))

        by : (n : ℕ) (ys : List ℤ) (r : List ℕ) → ys ≡ pos n ∷ [] → B r → Makes (λ zs. IfList (ys ++ zs)) (fields (reading T) (inner (suc (suc d))) (fields_of T n) r)
        by n ys r q p =
            elim (ℕ_discrete n 5) [
              | yes z ↦
                  subst (λ (m : ℕ). Makes (λ zs. IfList (ys ++ zs)) (fields (reading T) (inner (suc (suc d))) (fields_of T m) r)) (sym z)
                  (makes-more (λ zs. IsList (pos 5 ∷ zs)) (λ zs. IfList (ys ++ zs)) (λ zs m e. subst (λ (l : List ℤ). IsList (l ++ zs)) (sym (q ∙ ap (λ (m : ℕ). pos m ∷ []) z)) m)
                  (fields (reading T) (inner (suc (suc d))) (fields_of T 5) r) (five r p))
              | no z ↦
                  makes-all (λ zs. IfList (ys ++ zs))
                  (λ zs e. absurd (z (let f : pos n ≡ pos 5 = sym (ap (λ (m : List ℤ). get_or (m ++ zs) 0 (pos 0)) q) ∙ e in let g : n ≡ 5 = cc in g)))
                  (fields (reading T) (inner (suc (suc d))) (fields_of T n) r)
            ]

    messages : (m : List ℕ) → B (root_of m) → Makes IfList (read_message_lem T m)
    unfolding read_message_lem root
    messages m o =
        pick_all (Makes IfList) (eqb (frame m) 0)
        (λ e. makes-whole IfList (root (reading T) T (root_of m))
        (pick_all (Makes IfList) (is_null (read_head T deepest 0 (root_of m))) (λ e. tt) (λ e. lists (deepest - 3) (root_of m) o)))
        (λ e. tt)

  -- every accepted message whose root has type 5, in either version
  spelled-so : (m : List ℕ) (l : List ℤ) (r : List ℕ) → B (root_of m) → read_list m ≡ got l r → get_or l 1 (pos 0) ≡ pos 5 → SpelledBy S l
  unfolding read_list read_as
  spelled-so m l r o e five =
      let v = version_of_lem (root_of m) in
      let g = prepended (pos v ∷ []) (read_message_lem (pitsurv v) m) e in
      let f : get_or g.more 0 (pos 0) ≡ pos 5 = sym (ap (λ (n : List ℤ). get_or n 1 (pos 0)) g.joined) ∙ five in
      let i : IsList v (second v) g.more = subst (Makes (IfList v (second v))) g.inner (messages v (second v) m o) f in
      record {
        spelled = record {
          version = v;
          one-or-two = version-is (root_of m);
          tile = i.tile;
          elements = i.es;
          numbers = g.joined ∙ ap (λ (n : List ℤ). pos v ∷ n) i.is;
        };
        tile = i.keeps;
        pits = i.keep;
      }

pub pit-list-spelled : (m : List ℕ) (l : List ℤ) (r : List ℕ) → read_list m ≡ got l r → get_or l 1 (pos 0) ≡ pos 5 → Spelled l
pit-list-spelled m l r e five = (spelled-so (λ b. Unit {0}) (λ n. Unit {0}) (λ k b o. tt) (λ b o. tt) m l r tt e five).spelled

-- of a message that is bytes, its tile and its pits are uint32
pub pit-list-within : (m : List ℕ) (l : List ℤ) (r : List ℕ) → Bytes m → read_list m ≡ got l r → get_or l 1 (pos 0) ≡ pos 5 → SpelledBy (λ n. n < 2 ^ 32) l
pit-list-within m l r o e five = spelled-so Bytes (λ n. n < 2 ^ 32) bytes_drop (λ b p. be-lt 4 b p) m l r (bytes_take (length m - 12) (drop 8 m) (bytes_drop 8 m o)) e five
