-- How a walk goes on, in places: each step of the code is one of these, for the reader and the writer. Assumes nothing.
use Rattle.wire.proofs.Basics.{◌∙◌, sym, ◌≡◌, ap, refl, subst, ℕ, ◌≤◌, ◌+◌, ◌<◌, ◌-◌, suc, zero, List, [], ◌∷◌, ◌++◌, append_assoc, append-nil, false, length, drop, get_or, length-append, length-drop}
use Rattle.wire.proofs.Basics.{set, drop_of_length-le, sets, slice, eq-eqb, ne_eqb, add-one, arith}
use native.Mathlib.Nat.{add-zero, le_antisymm}
use lib.Seq.{slice-cons, slice_empty}
use Rattle.lmcp.specs.declared.Row.{Row}
use Rattle.lmcp.specs.Limits.{deepest}
use Rattle.std.proofs.Common.{Result, Ok, Err}
use Rattle.refusals.specs.declared.Refusal.{Refusal}
use Rattle.refusals.specs.Numbers.{number_of}
use Rattle.lmcp.specs.declared.Spot.{Spot}
use Rattle.lmcp.specs.Run.{Run, got, refused, Tag, tag, bad, prepend, and_then, after, repeat, whole}
use Rattle.lmcp.specs.Table.{object_kind, Table, fields_of, nothing}
use Rattle.lmcp.specs.Walk.{Way, item, field, fields, is_null, object, root}
use Rattle.lmcp.specs.InsideEnds.{went, marks, begun, Sofar, EndsBy, Marked, MarksBy}

pub sets-append : {B : Type 0} (l : List B) (i : ℕ) (a b : List B) → sets l i (a ++ b) ≡ sets (sets l i a) (i + length a) b
sets-append l i [] b = rw add-zero
sets-append l i (x ∷ a) b = sets-append (set l i x) (suc i) a b ∙ ap (λ (n : ℕ). sets (sets (set l i x) (suc i) a) n b) (omega arith)

-- ---- steps

module _ {A B : Type 0} where
  pub prepend-nil : (X : Run A B) → prepend [] X ≡ X
  unfolding prepend
  prepend-nil (got ys r) = refl
  prepend-nil (refused n) = refl

  pub prepend-append : (a b : List B) (X : Run A B) → prepend (a ++ b) X ≡ prepend a (prepend b X)
  unfolding prepend
  prepend-append a b (got ys r) = ap (λ (l : List B). got l r) (append_assoc a b ys)
  prepend-append a b (refused n) = refl

  -- another name for the same run
  pub same-run : (Few : ℕ → ℕ → Type 0) (s : List A) (out : List B) (to : ℕ) {X Y : Run A B} (r : Result Spot Refusal) (out' : List B) → Y ≡ X → EndsBy Few (begun s out to) X r out' → EndsBy Few (begun s out to) Y r out'
  same-run Few s out to r out' e h = subst (λ (X : Run A B). EndsBy Few (begun s out to) X r out') (sym e) h

  module _ {Few : ℕ → ℕ → Type 0} {s : List A} where
    -- a leaf made ys
    pub made : {X : Run A B} {out out' : List B} {to : ℕ} (ys : List B) (at' to' : ℕ) → X ≡ got ys (drop at' s) → out' ≡ sets out to ys → to' ≡ to + length ys → Few to' at' → at' ≤ length s
        → EndsBy Few (begun s out to) X (went at' to') out'
    unfolding prepend
    made ys at' to' e o p f w = record { ys = ys; whole = e ∙ ap (λ (l : List B). got l (drop at' s)) (sym (append-nil ys)); laid = o; place = p; fewer = f; within = w }

    pub marked : {X : Tag A B} {out out' : List B} {to : ℕ} (n : ℕ) (ys : List B) (at' to' : ℕ) → X ≡ tag n ys (drop at' s) → out' ≡ sets out to ys → to' ≡ to + length ys → Few to' at' → at' ≤ length s
        → MarksBy Few (begun s out to) X (marks n at' to') out'
    marked n ys at' to' e o p f w = record { ys = ys; whole = e; laid = o; place = p; fewer = f; within = w }

    -- a walk begins
    pub begins : {X : Run A B} (rest : List A → Run A B) (at to : ℕ) (out : List B) → X ≡ rest (drop at s) → Few to at → at ≤ length s → Sofar Few (begun s out to) X rest at to out
    begins rest at to out e f w = record { ys = []; whole = e ∙ sym (prepend-nil _); laid = refl; place = omega arith; fewer = f; within = w }

    module _ {o0 : List B} {t0 : ℕ} {X : Run A B} {rest : List A → Run A B} {at to : ℕ} {out : List B} (h : Sofar Few (begun s o0 t0) X rest at to out) where
      -- a part is got
      pub next : {Y : Run A B} (rest' : List A → Run A B) {at' to' : ℕ} {out' : List B} → rest (drop at s) ≡ and_then Y rest' → Sofar Few (begun s out to) Y (got []) at' to' out'
          → Sofar Few (begun s o0 t0) X rest' at' to' out'
      unfolding prepend and_then
      next rest' {at'} {to'} {out'} e g =
          record {
            ys = h.ys ++ g.ys;
            whole =
                h.whole
                ∙ ap (prepend h.ys) (e ∙ ap (λ (Y : Run A B). and_then Y rest') g.whole ∙ ap (λ (l : List B). prepend l (rest' (drop at' s))) (append-nil g.ys))
                ∙ sym (prepend-append h.ys g.ys (rest' (drop at' s)));
            laid = cc (sets-append o0 t0 h.ys g.ys, h.laid, h.place, g.laid);
            place = simp length-append (omega (arith, h.place, g.place));
            fewer = g.fewer;
            within = g.within;
          }

      -- a part is refused
      pub next-stops : {Y : Run A B} (rest' : List A → Run A B) (n : ℕ) → rest (drop at s) ≡ and_then Y rest' → Y ≡ refused n → X ≡ refused n
      unfolding and_then prepend
      next-stops rest' n e g = h.whole ∙ ap (prepend h.ys) (e ∙ ap (λ (Y : Run A B). and_then Y rest') g)

      -- nothing is left to do
      pub ends : rest (drop at s) ≡ got [] (drop at s) → EndsBy Few (begun s o0 t0) X (went at to) out
      ends e = record { ys = h.ys; whole = h.whole ∙ ap (prepend h.ys) e; laid = h.laid; place = h.place; fewer = h.fewer; within = h.within }

    -- after a count or a type
    module _ {X : Tag A B} {n at to t0 : ℕ} {o0 out : List B} (h : Marked Few (begun s o0 t0) X n at to out) (k : ℕ → List A → Run A B) where
      pub marked-then : (r : Result Spot Refusal) (out' : List B) → EndsBy Few (begun s out to) (k n (drop at s)) r out' → EndsBy Few (begun s o0 t0) (after X k) r out'
      unfolding prepend after
      marked-then (Err m) out' g = ap (λ (Y : Tag A B). after Y k) h.whole ∙ ap (prepend h.ys) g
      marked-then (Ok y) out' g =
          record {
            ys = h.ys ++ g.ys;
            whole = ap (λ (Y : Tag A B). after Y k) h.whole ∙ ap (prepend h.ys) g.whole ∙ sym (prepend-append h.ys g.ys (got [] (drop y.p s)));
            laid = cc (sets-append o0 t0 h.ys g.ys, h.laid, h.place, g.laid);
            place = simp length-append (omega (arith, h.place, g.place));
            fewer = g.fewer;
            within = g.within;
          }

      pub marked-end : k n (drop at s) ≡ got [] (drop at s) → EndsBy Few (begun s o0 t0) (after X k) (went at to) out
      unfolding after
      marked-end e =
          record { ys = h.ys; whole = ap (λ (Y : Tag A B). after Y k) h.whole ∙ ap (prepend h.ys) e; laid = h.laid; place = h.place; fewer = h.fewer; within = h.within }

  pub marked-stops : {X : Tag A B} (n : ℕ) (k : ℕ → List A → Run A B) → X ≡ bad n → after X k ≡ refused n
  unfolding after
  marked-stops n k e = ap (λ (Y : Tag A B). after Y k) e

  -- ---- what a loop has still to do

  pub repeat-more : (f : List A → Run A B) (l : List A) (n k : ℕ) → k < n → repeat (n - k) f l ≡ and_then (f l) (repeat (n - (k + 1)) f)
  unfolding repeat
  repeat-more f l n k h = let e : n - k ≡ suc (n - (k + 1)) = omega arith in ap (λ (m : ℕ). repeat m f l) e

  pub repeat-end : (f : List A → Run A B) (l : List A) (n k : ℕ) → n ≤ k → repeat (n - k) f l ≡ got [] l
  unfolding repeat
  repeat-end f l n k h = let e : n - k ≡ 0 = omega arith in ap (λ (m : ℕ). repeat m f l) e

  pub repeat-all : (f : List A → Run A B) (l : List A) (n : ℕ) → repeat n f l ≡ repeat (n - 0) f l
  repeat-all f l n = let e : n ≡ n - 0 = omega arith in ap (λ (m : ℕ). repeat m f l) e

-- ---- cases of the definitions

module _ {A B : Type 0} (W : Way A B) (obj : ℕ → List A → Run A B) where
  pub item-object : (f : Row) (l : List A) → f.kind ≡ object_kind → item W obj f l ≡ obj f.arg l
  unfolding item
  item-object f l h = simp (eq-eqb _ _ h)

  pub item-value : (f : Row) (l : List A) → (f.kind ≡ object_kind → ⊥) → item W obj f l ≡ W.value f.kind f.arg l
  unfolding item
  item-value f l h = simp (ne_eqb _ _ h)

  pub field_fixed : (f : Row) (l : List A) → f.count ≡ 0 → field W obj f l ≡ repeat f.fixed (item W obj f) l
  unfolding field
  field_fixed f l h = simp (eq-eqb _ _ h)

  pub field-counted : (f : Row) (l : List A) → (f.count ≡ 0 → ⊥) → field W obj f l ≡ after (W.count f.count l) (λ n. repeat n (item W obj f))
  unfolding field
  field-counted f l h = simp (ne_eqb _ _ h)

  pub fields-more : (rows : List Row) (i e : ℕ) (l : List A) → i < e → e ≤ length rows → fields W obj (slice i e rows) l ≡ and_then (field W obj (get_or rows i nothing) l) (fields W obj (slice (i + 1) e rows))
  unfolding fields
  fields-more rows i e l h k =
      ap (λ (fs : List Row). fields W obj fs l) (slice-cons i e rows nothing h k)
      ∙ ap (λ (m : ℕ). and_then (field W obj (get_or rows i nothing) l) (fields W obj (slice m e rows))) (sym (add-one i))

  pub fields-end : (rows : List Row) (i e : ℕ) (l : List A) → e ≤ i → i ≤ e → fields W obj (slice i e rows) l ≡ got [] l
  unfolding fields
  fields-end rows i e l h k = ap (λ (m : ℕ). fields W obj (slice m e rows) l) (le_antisymm k h) ∙ ap (λ (fs : List Row). fields W obj fs l) (slice_empty e rows)

-- what follows an object's head: the fields of its type, with one depth less
abbrev pub inside : {A B : Type 0} → Way A B → Table → ℕ → ℕ → List A → Run A B
inside W T zero n l = got [] l
inside W T (suc d) n l = fields W (object W T d) (fields_of T n) l

module _ {A B : Type 0} (W : Way A B) (T : Table) where
  pub object-is : (d t : ℕ) (l : List A) → object W T d t l ≡ after (W.head d t l) (inside W T d)
  unfolding object
  object-is zero t l = refl
  object-is (suc d) t l = refl

  -- null has no fields
  pub inside-null : (d : ℕ) (l : List A) → fields_of T 0 ≡ [] → inside W T d 0 l ≡ got [] l
  unfolding fields
  inside-null zero l e = refl
  inside-null (suc d) l e = ap (λ (fs : List Row). fields W (object W T d) fs l) e

  pub inside-fields : (d n : ℕ) (l : List A) → 0 < d → inside W T d n l ≡ fields W (object W T (d - 1)) (fields_of T n) l
  inside-fields zero n l h = absurd (let z : ⊥ = omega arith in z)
  inside-fields (suc d) n l h = let p : d ≡ suc d - 1 = omega arith in ap (λ (j : ℕ). fields W (object W T j) (fields_of T n) l) p

-- ---- the walk's functions, in places: one turn of each loop, and each way on from a count or a head

module _ {A B : Type 0} (Few : ℕ → ℕ → Type 0) {s : List A} {o0 : List B} {t0 : ℕ} {X : Run A B} where
  module _ (f : List A → Run A B) (n k : ℕ) {p q : ℕ} {out : List B} (h : Sofar Few (begun s o0 t0) X (repeat (n - k) f) p q out) where
    module _ (more : k < n) (r : Result Spot Refusal) (out' : List B) (g : EndsBy Few (begun s out q) (f (drop p s)) r out') where
      pub items-turn : (y : Spot) → r ≡ Ok y → Sofar Few (begun s o0 t0) X (repeat (n - (k + 1)) f) y.p y.q out'
      items-turn y e = next h (repeat (n - (k + 1)) f) (repeat-more f (drop p s) n k more) (subst (λ (w : Result Spot Refusal). EndsBy Few (begun s out q) (f (drop p s)) w out') e g)

      pub items-stop : (m : Refusal) → r ≡ Err m → X ≡ refused (number_of m)
      items-stop m e = next-stops h (repeat (n - (k + 1)) f) (number_of m) (repeat-more f (drop p s) n k more) (subst (λ (w : Result Spot Refusal). EndsBy Few (begun s out q) (f (drop p s)) w out') e g)

    pub items-end : n ≤ k → EndsBy Few (begun s o0 t0) X (went p q) out
    items-end l = ends h (repeat-end f (drop p s) n k l)

  module _ (W : Way A B) (obj : ℕ → List A → Run A B) (rows : List Row) (i e : ℕ) {p q : ℕ} {out : List B} (h : Sofar Few (begun s o0 t0) X (fields W obj (slice i e rows)) p q out) where
    module _ (more : i < e) (inside : e ≤ length rows) (r : Result Spot Refusal) (out' : List B) (g : EndsBy Few (begun s out q) (field W obj (get_or rows i nothing) (drop p s)) r out') where
      pub fields-turn : (y : Spot) → r ≡ Ok y → Sofar Few (begun s o0 t0) X (fields W obj (slice (i + 1) e rows)) y.p y.q out'
      fields-turn y c =
          next h (fields W obj (slice (i + 1) e rows)) (fields-more W obj rows i e (drop p s) more inside)
          (subst (λ (w : Result Spot Refusal). EndsBy Few (begun s out q) (field W obj (get_or rows i nothing) (drop p s)) w out') c g)

      pub fields-stop : (m : Refusal) → r ≡ Err m → X ≡ refused (number_of m)
      fields-stop m c =
          next-stops h (fields W obj (slice (i + 1) e rows)) (number_of m) (fields-more W obj rows i e (drop p s) more inside)
          (subst (λ (w : Result Spot Refusal). EndsBy Few (begun s out q) (field W obj (get_or rows i nothing) (drop p s)) w out') c g)

    pub fields-done : e ≤ i → i ≤ e → EndsBy Few (begun s o0 t0) X (went p q) out
    fields-done l u = ends h (fields-end W obj rows i e (drop p s) l u)

module _ {A B : Type 0} (Few : ℕ → ℕ → Type 0) (s : List A) (o0 : List B) (t0 : ℕ) where
  -- what a count or a head gave
  pub mark-stop : {X : Tag A B} (r : Result (ℕ × Spot) Refusal) (out : List B) → MarksBy Few (begun s o0 t0) X r out → (m : Refusal) → r ≡ Err m → X ≡ bad (number_of m)
  mark-stop {X} r out g m e = subst (λ (w : Result (ℕ × Spot) Refusal). MarksBy Few (begun s o0 t0) X w out) e g

  pub mark_on : {X : Tag A B} (r : Result (ℕ × Spot) Refusal) (out : List B) → MarksBy Few (begun s o0 t0) X r out → (n : ℕ) (y : Spot) → r ≡ Ok (n, y) → Marked Few (begun s o0 t0) X n y.p y.q out
  mark_on {X} r out g n y e = subst (λ (w : Result (ℕ × Spot) Refusal). MarksBy Few (begun s o0 t0) X w out) e g

-- ---- a root

module _ {A B : Type 0} (W : Way A B) (T : Table) (l : List A) where
  pub root-stops : (n : ℕ) → W.head deepest 0 l ≡ bad n → root W T l ≡ refused n
  unfolding root
  root-stops n e = rw e (object-is W T deepest 0 l ∙ marked-stops n (inside W T deepest) e)

  pub root-null : {ys : List B} {r : List A} → W.head deepest 0 l ≡ tag 0 ys r → root W T l ≡ refused 23
  unfolding root
  root-null e = rw e refl

  pub root-object : is_null (W.head deepest 0 l) ≡ false → root W T l ≡ object W T deepest 0 l
  unfolding root
  root-object e = rw e refl

pub some-tag : {A B : Type 0} (n : ℕ) (ys : List B) (r : List A) → 0 < n → is_null (tag n ys r) ≡ false
some-tag zero ys r h = absurd (let z : ⊥ = omega arith in z)
some-tag (suc n) ys r h = refl

-- ---- a walk of the whole list, which laid nothing, and then the same walk, which lays what it makes

pub whole-none : {A B : Type 0} (ys : List B) (r : List A) → r ≡ [] → whole (got ys r) ≡ got ys []
unfolding whole
whole-none {A} ys r e = ap (λ (m : List A). whole (got ys m)) e

pub whole-more : {A B : Type 0} (ys : List B) (r : List A) → 0 < length r → whole (got ys r) ≡ refused 28
unfolding whole
whole-more ys [] h = absurd (let z : ⊥ = omega arith in z)
whole-more ys (x ∷ r) h = refl

module _ {A B : Type 0} {Few : ℕ → ℕ → Type 0} {s : List A} {X : Run A B} {t0 at to : ℕ} {o0 o1 : List B} (h : Sofar Few (begun s o0 t0) X (got []) at to o1) where
  pub run_is : X ≡ got h.ys (drop at s)
  unfolding prepend
  run_is = h.whole ∙ ap (λ (l : List B). got l (drop at s)) (append-nil h.ys)

  pub run-left : (at ≡ length s → ⊥) → whole X ≡ refused 28
  run-left d =
      let l : 0 < length (drop at s) = rw length-drop (omega (arith, h.within, d)) in
      ap whole run_is ∙ whole-more h.ys (drop at s) l

  pub run-done : at ≡ length s → whole X ≡ got h.ys []
  run-done d = let l : length s ≤ at = omega arith in ap whole run_is ∙ whole-none h.ys (drop at s) (drop_of_length-le s l)

pub empty : {A : Type 0} (l : List A) → length l ≡ 0 → l ≡ []
empty [] e = refl
empty (x ∷ l) e = absurd (let z : ⊥ = omega arith in z)
