-- A walk that another undoes, and how such pairs are put together: once, for reading back what was written and for writing again
-- what was read. Assumes nothing.
use Rattle.wire.proofs.Basics.{◌∙◌, sym, ◌≡◌, ap, refl, subst, ℕ, ◌≤◌, suc, zero, List, [], ◌∷◌, ◌++◌, append_assoc, append-nil, true, false, Bool, eqb, eqb-false, arith}
use Rattle.wire.specs.Choice.{pick}
use Rattle.lmcp.specs.declared.Row.{Row}
use Rattle.lmcp.specs.Limits.{deepest}
use Rattle.lmcp.specs.Run.{Run, got, refused, Tag, tag, bad, prepend, and_then, after, repeat}
use Rattle.lmcp.specs.Table.{object_kind, Table, RowFits, RowsFit, fields_of}
use Rattle.lmcp.specs.Walk.{Way, item, field, fields, is_null, object, root}
use Rattle.lmcp.proofs.WalkPlaces.{inside, object-is}

-- ---- what is got is not refused

module _ {A B : Type 0} where
  pub not-refused {ℓ} : {X : Type ℓ} {n : ℕ} {ys : List B} {r : List A} → ◌≡◌ {A = Run A B} (refused n) (got ys r) → X
  not-refused e = let z : ◌≡◌ {A = ℕ} 0 1 = cc in absurd (let h : ⊥ = omega arith in h)

  pub not-bad {ℓ} : {X : Type ℓ} {n m : ℕ} {ys : List B} {r : List A} → ◌≡◌ {A = Tag A B} (bad n) (tag m ys r) → X
  not-bad e = let z : ◌≡◌ {A = ℕ} 0 1 = cc in absurd (let h : ⊥ = omega arith in h)

  -- what a test says of an answer
  pub got-unless : (t : Bool) (n : ℕ) (X : Run A B) {ys : List B} {r : List A} → pick t (refused n) X ≡ got ys r → (t ≡ false) × (X ≡ got ys r)
  got-unless true n X e = not-refused e
  got-unless false n X e = (refl, e)

  pub got-where : (t : Bool) (X : Run A B) (n : ℕ) {ys : List B} {r : List A} → pick t X (refused n) ≡ got ys r → (t ≡ true) × (X ≡ got ys r)
  got-where true X n e = (refl, e)
  got-where false X n e = not-refused e

  pub tag-unless : (t : Bool) (n : ℕ) (X : Tag A B) {m : ℕ} {ys : List B} {r : List A} → pick t (bad n) X ≡ tag m ys r → (t ≡ false) × (X ≡ tag m ys r)
  tag-unless true n X e = not-bad e
  tag-unless false n X e = (refl, e)

  pub tag-where : (t : Bool) (X : Tag A B) (n : ℕ) {m : ℕ} {ys : List B} {r : List A} → pick t X (bad n) ≡ tag m ys r → (t ≡ true) × (X ≡ tag m ys r)
  tag-where true X n e = (refl, e)
  tag-where false X n e = not-bad e

  -- the parts of what is got
  pub got-made : {a b : List B} {l r : List A} → ◌≡◌ {A = Run A B} (got a l) (got b r) → a ≡ b
  got-made e = cc

  pub got-rest : {a b : List B} {l r : List A} → ◌≡◌ {A = Run A B} (got a l) (got b r) → l ≡ r
  got-rest e = cc

  pub tag-number : {m n : ℕ} {a b : List B} {l r : List A} → ◌≡◌ {A = Tag A B} (tag m a l) (tag n b r) → m ≡ n
  tag-number e = cc

  pub tag-made : {m n : ℕ} {a b : List B} {l r : List A} → ◌≡◌ {A = Tag A B} (tag m a l) (tag n b r) → a ≡ b
  tag-made e = cc

  pub tag-rest : {m n : ℕ} {a b : List B} {l r : List A} → ◌≡◌ {A = Tag A B} (tag m a l) (tag n b r) → l ≡ r
  tag-rest e = cc

-- ---- what a whole says of its parts

module _ {A B : Type 0} where
  pub record Prepended (ps : List B) (X : Run A B) (ys : List B) (r : List A) : Type 0 where
    pub more : List B
    pub inner : X ≡ got more r
    pub joined : ys ≡ ps ++ more

  pub record Joined (X : Run A B) (k : List A → Run A B) (ys : List B) (r : List A) : Type 0 where
    pub one : List B
    pub mid : List A
    pub two : List B
    pub first : X ≡ got one mid
    pub second : k mid ≡ got two r
    pub joined : ys ≡ one ++ two

  pub record Followed (X : Tag A B) (k : ℕ → List A → Run A B) (ys : List B) (r : List A) : Type 0 where
    pub number : ℕ
    pub one : List B
    pub mid : List A
    pub two : List B
    pub first : X ≡ tag number one mid
    pub second : k number mid ≡ got two r
    pub joined : ys ≡ one ++ two

  pub prepended : (ps : List B) (X : Run A B) {ys : List B} {r : List A} → prepend ps X ≡ got ys r → Prepended ps X ys r
  unfolding prepend
  prepended ps (got zs m) e = record { more = zs; inner = ap (got zs) (got-rest e); joined = sym (got-made e) }
  prepended ps (refused n) e = not-refused e

  pub parted : (X : Run A B) (k : List A → Run A B) {ys : List B} {r : List A} → and_then X k ≡ got ys r → Joined X k ys r
  unfolding and_then
  parted (got zs m) k e = let g = prepended zs (k m) e in record { one = zs; mid = m; two = g.more; first = refl; second = g.inner; joined = g.joined }
  parted (refused n) k e = not-refused e

  pub followed : (X : Tag A B) (k : ℕ → List A → Run A B) {ys : List B} {r : List A} → after X k ≡ got ys r → Followed X k ys r
  unfolding after
  followed (tag n zs m) k e = let g = prepended zs (k n m) e in record { number = n; one = zs; mid = m; two = g.more; first = refl; second = g.inner; joined = g.joined }
  followed (bad n) k e = not-refused e

-- ---- undone

module _ {A B : Type 0} where
  -- ys was made of the front of l, and g makes that front of it again
  pub record Undone (g : List B → Run B A) (l : List A) (ys : List B) (r : List A) : Type 0 where
    pub front : List A
    pub split : l ≡ front ++ r
    pub again : (t : List B) → g (ys ++ t) ≡ got front t

  pub record UndoneTag (g : List B → Tag B A) (n : ℕ) (l : List A) (ys : List B) (r : List A) : Type 0 where
    pub front : List A
    pub split : l ≡ front ++ r
    pub again : (t : List B) → g (ys ++ t) ≡ tag n front t

  abbrev pub Undoes : (List A → Type 0) → (List A → Run A B) → (List B → Run B A) → Type 0
  Undoes G f g = (l : List A) (ys : List B) (r : List A) → G l → f l ≡ got ys r → Undone g l ys r

  abbrev pub UndoesTag : (List A → Type 0) → (List A → Tag A B) → (List B → Tag B A) → Type 0
  UndoesTag G f g = (l : List A) (n : ℕ) (ys : List B) (r : List A) → G l → f l ≡ tag n ys r → UndoneTag g n l ys r

-- U undoes W, at each leaf, on lists that are good
pub record Leaves {A B : Type 0} (G : List A → Type 0) (W : Way A B) (U : Way B A) : Type 0 where
  pub rest : (a b : List A) → G (a ++ b) → G b
  pub values : (f : Row) → RowFits f → (f.kind ≡ object_kind → ⊥) → Undoes G (W.value f.kind f.arg) (U.value f.kind f.arg)
  pub counts : (w : ℕ) → w ≤ 7 → UndoesTag G (W.count w) (U.count w)
  pub heads : (d t : ℕ) → UndoesTag G (W.head d t) (U.head d t)

module _ {A B : Type 0} (G : List A → Type 0) (W : Way A B) (U : Way B A) (leaves : Leaves G W U) where
  undo-nil : Undoes {A = A} {B = B} G (got []) (got [])
  undo-nil l ys r g e = record { front = []; split = got-rest e; again = λ t. ap (λ (x : List B). got [] (x ++ t)) (sym (got-made e)) }

  undo-then : (f f' : List A → Run A B) (h h' : List B → Run B A) → Undoes G f h → Undoes G f' h' → Undoes G (λ l. and_then (f l) f') (λ b. and_then (h b) h')
  unfolding and_then prepend
  undo-then f f' h h' u u' l ys r g e =
      let p = parted (f l) f' e in
      let x = u l p.one p.mid g p.first in
      let y = u' p.mid p.two r (leaves.rest x.front p.mid (subst G x.split g)) p.second in
      record {
        front = x.front ++ y.front;
        split = x.split ∙ ap (λ (m : List A). x.front ++ m) y.split ∙ sym (append_assoc x.front y.front r);
        again = λ t.
            ap (λ (m : List B). and_then (h m) h') (ap (λ (n : List B). n ++ t) p.joined ∙ append_assoc p.one p.two t)
            ∙ ap (λ (m : Run B A). and_then m h') (x.again (p.two ++ t)) ∙ ap (prepend x.front) (y.again t);
      }

  undo-after : (f : List A → Tag A B) (k : ℕ → List A → Run A B) (h : List B → Tag B A) (j : ℕ → List B → Run B A)
      → UndoesTag G f h → ((n : ℕ) → Undoes G (k n) (j n)) → Undoes G (λ l. after (f l) k) (λ b. after (h b) j)
  unfolding after prepend
  undo-after f k h j u u' l ys r g e =
      let p = followed (f l) k e in
      let x = u l p.number p.one p.mid g p.first in
      let y = u' p.number p.mid p.two r (leaves.rest x.front p.mid (subst G x.split g)) p.second in
      record {
        front = x.front ++ y.front;
        split = x.split ∙ ap (λ (m : List A). x.front ++ m) y.split ∙ sym (append_assoc x.front y.front r);
        again = λ t.
            ap (λ (m : List B). after (h m) j) (ap (λ (n : List B). n ++ t) p.joined ∙ append_assoc p.one p.two t)
            ∙ ap (λ (m : Tag B A). after m j) (x.again (p.two ++ t)) ∙ ap (prepend x.front) (y.again t);
      }

  undo-repeat : (n : ℕ) (f : List A → Run A B) (h : List B → Run B A) → Undoes G f h → Undoes G (repeat n f) (repeat n h)
  unfolding repeat
  undo-repeat zero f h u = undo-nil
  undo-repeat (suc n) f h u = undo-then f (repeat n f) h (repeat n h) u (undo-repeat n f h u)

  module _ (obj : ℕ → List A → Run A B) (obj' : ℕ → List B → Run B A) (objs : (t : ℕ) → Undoes G (obj t) (obj' t)) where
    item_by : (f : Row) → RowFits f → (t : Bool) → eqb f.kind object_kind ≡ t
        → Undoes G (λ l. pick t (obj f.arg l) (W.value f.kind f.arg l)) (λ b. pick t (obj' f.arg b) (U.value f.kind f.arg b))
    item_by f s true e = objs f.arg
    item_by f s false e = leaves.values f s (eqb-false f.kind object_kind e)

    undo-item : (f : Row) → RowFits f → Undoes G (item W obj f) (item U obj' f)
    unfolding item
    undo-item f s = item_by f s (eqb f.kind object_kind) refl

    field-by : (f : Row) → RowFits f → (t : Bool)
        → Undoes G (λ l. pick t (repeat f.fixed (item W obj f) l) (after (W.count f.count l) (λ n. repeat n (item W obj f))))
        (λ b. pick t (repeat f.fixed (item U obj' f) b) (after (U.count f.count b) (λ n. repeat n (item U obj' f))))
    field-by f s true = undo-repeat f.fixed (item W obj f) (item U obj' f) (undo-item f s)
    field-by f s false =
        undo-after (W.count f.count) (λ n. repeat n (item W obj f)) (U.count f.count) (λ n. repeat n (item U obj' f))
        (leaves.counts f.count s.count_fits) (λ n. undo-repeat n (item W obj f) (item U obj' f) (undo-item f s))

    undo-field : (f : Row) → RowFits f → Undoes G (field W obj f) (field U obj' f)
    unfolding field
    undo-field f s = field-by f s (eqb f.count 0)

    undo-fields : (fs : List Row) → RowsFit fs → Undoes G (fields W obj fs) (fields U obj' fs)
    unfolding fields
    undo-fields [] s = undo-nil
    undo-fields (f ∷ fs) s = undo-then (field W obj f) (fields W obj fs) (field U obj' f) (fields U obj' fs) (undo-field f s.0) (undo-fields fs s.1)

  module _ (T : Table) (rows : (n : ℕ) → RowsFit (fields_of T n)) where
    pub undo-object : (d t : ℕ) → Undoes G (object W T d t) (object U T d t)
    unfolding object
    undo-object zero t = undo-after (W.head zero t) (λ n. got []) (U.head zero t) (λ n. got []) (leaves.heads zero t) (λ n. undo-nil)
    undo-object (suc d) t =
        undo-after (W.head (suc d) t) (λ n. fields W (object W T d) (fields_of T n)) (U.head (suc d) t) (λ n. fields U (object U T d) (fields_of T n))
        (leaves.heads (suc d) t) (λ n. undo-fields (object W T d) (object U T d) (undo-object d) (fields_of T n) (rows n))

    -- both heads are null, or neither
    same-null : (l : List A) (ys : List B) (r : List A) → G l → object W T deepest 0 l ≡ got ys r → is_null (U.head deepest 0 (ys ++ [])) ≡ is_null (W.head deepest 0 l)
    same-null l ys r g e =
        let p = followed (W.head deepest 0 l) (inside W T deepest) (sym (object-is W T deepest 0 l) ∙ e) in
        let x = leaves.heads deepest 0 l p.number p.one p.mid g p.first in
        let q = x.again (p.two ++ []) in
        ap (λ (b : List B). is_null (U.head deepest 0 b)) (ap (λ (n : List B). n ++ []) p.joined ∙ append_assoc p.one p.two [])
        ∙ ap is_null q ∙ null-both p.number x.front (p.two ++ []) p.one p.mid ∙ ap is_null (sym p.first)
      where
        null-both : (n : ℕ) (a : List A) (b : List B) (c : List B) (d : List A) → is_null {A = B} {B = A} (tag n a b) ≡ is_null {A = A} {B = B} (tag n c d)
        null-both zero a b c d = refl
        null-both (suc n) a b c d = refl

    -- a root that is walked whole is walked back whole
    pub undo-root : (l : List A) (ys : List B) → G l → root W T l ≡ got ys [] → root U T ys ≡ got l []
    unfolding root
    undo-root l ys g e =
        let p = got-unless (is_null (W.head deepest 0 l)) 23 (object W T deepest 0 l) e in
        let x = undo-object deepest 0 l ys [] g p.1 in
        let n : is_null (U.head deepest 0 ys) ≡ false = ap (λ (b : List B). is_null (U.head deepest 0 b)) (sym (append-nil ys)) ∙ same-null l ys [] g p.1 ∙ p.0 in
        let o : object U T deepest 0 ys ≡ got l [] =
        ap (object U T deepest 0) (sym (append-nil ys)) ∙ x.again [] ∙ ap (λ (m : List A). got m []) (sym (x.split ∙ append-nil x.front)) in
        rw n o
