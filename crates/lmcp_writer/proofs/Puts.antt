-- The walk that writes: what is not refused as a whole is refused nowhere, and each step lays what it makes. Assumes nothing.
use Rattle.wire.proofs.Basics.{◌∙◌, sym, ◌≡◌, ap, refl, subst, ℕ, ◌≤◌, ◌+◌, ◌<◌, ◌-◌, suc, zero, ◌*◌, ◌^◌, List, [], ◌∷◌, append-nil, true, false, Bool, length, drop, get_or, length-append, length-drop}
use Rattle.wire.proofs.Basics.{drop-drop, sets, eqb, ℤ, pos, negsuc, eqb-true, ltb-true, eqb-false, suc-mul, arith}
use lib.Signed.{mag}
use Rattle.wire.specs.Choice.{pick}
use Rattle.wire.specs.Bytes.{bytes}
use Rattle.wire.specs.Signed.{unsigned}
use Rattle.wire.proofs.Choices.{never, pick_all}
use Rattle.wire.proofs.Numbers.{length-bytes}
use Rattle.lmcp.specs.declared.Row.{Row}
use Rattle.lmcp.specs.Run.{got, refused, Tag, tag, bad, prepend, and_then, after, repeat}
use Rattle.lmcp.specs.Walk.{Way}
use Rattle.lmcp.specs.InsideAhead.{Few0, Ahead, Lays}
use Rattle.lmcp.specs.Table.{rows_of, fields_of, nothing, pitsurv}
use Rattle.lmcp.specs.Packed.{packed_of}
use Rattle.lmcp.specs.InsidePacked.{cell}
use Rattle.lmcp.specs.Value.{below, fits, denial}
use Rattle.lmcp.specs.Write.{Write, writing, write_value, write_count, header, typed_by_lem, write_head}
use Rattle.lmcp.proofs.WalkPlaces.{made}
use Rattle.lmcp.proofs.RunParts.{then-got}
use Rattle.lmcp.proofs.Aheads.{ahead_as, laid_as, ahead-tag, after-ahead, after-laid, ObjectAt, its-head, null-fits, lays-null, some_fits, lays-some}
use Rattle.lmcp.proofs.RowWays.{Here, one-object, many-values, many_objects, chars}
use Rattle.lmcp.proofs.Heads.{Some, header-length, typed-least, typed_by_mag, write-some}
use Rattle.lmcp_size.specs.InsideSteps.{write_object, write_row, write_fields}
use Rattle.lmcp_size.proofs.WriteCases.{here, wide-some}
use Rattle.lmcp_size.proofs.Rows.{widths}
use Rattle.lmcp_writer.specs.InsidePuts.{spelled}
use Rattle.lmcp_writer.proofs.NumberBytes.{low-bytes}

-- ---- values

pub no : {A : Type 0} {n : ℕ} {ys : List ℕ} {m : List ℤ} → ◌≡◌ {A = Write} (refused n) (got ys m) → A
no e = absurd (let z : ◌≡◌ {A = ℕ} 0 1 = cc in omega arith)

value-fine : (k w : ℕ) → w ≤ 8 → (z : ℤ) (r : List ℤ) (ys : List ℕ) (m : List ℤ) → write_value k w (z ∷ r) ≡ got ys m → write_value k w (z ∷ r) ≡ got (bytes w (unsigned 64 z)) r
unfolding write_value
value-fine k w h z r ys m e = by (fits k w z) refl e
  where
    by : (b : Bool) → fits k w z ≡ b → pick b (got (bytes w (unsigned (8 * w) z)) r) (refused (denial k)) ≡ got ys m → pick b (got (bytes w (unsigned (8 * w) z)) r) (refused (denial k)) ≡ got (bytes w (unsigned 64 z)) r
    by true f q = ap (λ (l : List ℕ). got l r) (sym (low-bytes k w z h f))
    by false f q = no q

value-some : (k w : ℕ) (ys : List ℕ) (m : List ℤ) → write_value k w [] ≡ got ys m → ⊥
unfolding write_value
value-some k w ys m e = no e

length-spelled : (n w : ℕ) (l : List ℤ) → n ≤ length l → length (spelled n w l) ≡ n * w
length-spelled zero w l h = omega arith
length-spelled (suc n) w [] h = absurd (let z : ⊥ = omega arith in z)
length-spelled (suc n) w (z ∷ l) h =
    length-append (bytes w (unsigned 64 z)) (spelled n w l) ∙ omega (arith, length-bytes w (unsigned 64 z), length-spelled n w l (omega arith), suc-mul n w)

module _ (k w : ℕ) (small : w ≤ 8) where
  values-fine : (n : ℕ) (l : List ℤ) (zs : List ℕ) (r : List ℤ) → repeat n (write_value k w) l ≡ got zs r → (n ≤ length l) × (repeat n (write_value k w) l ≡ got (spelled n w l) (drop n l))
  unfolding repeat and_then prepend
  values-fine zero l zs r e = (omega arith, refl)
  values-fine (suc n) [] zs r e = absurd (let t = then-got (write_value k w []) (repeat n (write_value k w)) zs r e in value-some k w t.ys t.mid t.first)
  values-fine (suc n) (z ∷ l) zs r e =
      let t = then-got (write_value k w (z ∷ l)) (repeat n (write_value k w)) zs r e in
      let f = value-fine k w small z l t.ys t.mid t.first in
      let x : got t.ys t.mid ≡ got (bytes w (unsigned 64 z)) l = sym t.first ∙ f in
      let b : t.mid ≡ l = cc in
      let y = values-fine n l t.more r (ap (repeat n (write_value k w)) (sym b) ∙ t.then) in
      (omega (arith, y.0), ap (λ (X : Write). and_then X (repeat n (write_value k w))) f ∙ ap (prepend (bytes w (unsigned 64 z))) y.1)

  pub record Many (n : ℕ) (s : List ℤ) (at q room : ℕ) : Type 0 where
    pub enough : at + n ≤ length s
    pub fits : q + n * w ≤ room
    pub are : repeat n (write_value k w) (drop at s) ≡ got (spelled n w (drop at s)) (drop (at + n) s)
    pub long : length (spelled n w (drop at s)) ≡ n * w

  many : (n : ℕ) (s : List ℤ) (at q room : ℕ) → at ≤ length s → Ahead (repeat n (write_value k w) (drop at s)) q room → Many n s at q room
  many n s at q room i a =
      let y = values-fine n (drop at s) a.ys a.rest a.is in
      let x : got a.ys a.rest ≡ got (spelled n w (drop at s)) (drop n (drop at s)) = sym a.is ∙ y.1 in
      let b : a.ys ≡ spelled n w (drop at s) = cc in
      let l = length-spelled n w (drop at s) y.0 in
      record { enough = omega (arith, y.0, length-drop at s, i); fits = omega (arith, a.fits, ap length b, l); are = y.1 ∙ ap (got (spelled n w (drop at s))) (drop-drop n at s); long = l }

  many-laid : (n : ℕ) (s : List ℤ) (at q room : ℕ) → Many n s at q room → {out : List ℕ} (out' : List ℕ) → out' ≡ sets out q (spelled n w (drop at s)) → Lays s out q (repeat n (write_value k w) (drop at s)) (at + n) (q + n * w) out'
  many-laid n s at q room m out' o = made {Few = Few0} (spelled n w (drop at s)) (at + n) (q + n * w) m.are o (ap (λ (j : ℕ). q + j) (sym m.long)) tt m.enough

-- ---- counts

pub record Counted (w : ℕ) (s : List ℤ) (at : ℕ) : Type 0 where
  pub inside : at < length s
  pub tagged : write_count w (drop at s) ≡ tag (mag (get_or s at (pos 0))) (bytes w (mag (get_or s at (pos 0)))) (drop (at + 1) s)

untagged : {A : Type 0} {n m : ℕ} {ys : List ℕ} {r : List ℤ} → ◌≡◌ {A = Tag ℤ ℕ} (bad n) (tag m ys r) → A
untagged e = absurd (let z : ◌≡◌ {A = ℕ} 0 1 = cc in omega arith)

count-fine : (w : ℕ) (s : List ℤ) (at : ℕ) → at ≤ length s → (n : ℕ) (ys : List ℕ) (m : List ℤ) → write_count w (drop at s) ≡ tag n ys m → Counted w s at
unfolding write_count
count-fine w s at i n ys m e = by (drop at s) refl
  where
    good : (z : ℤ) (r : List ℤ) → write_count w (z ∷ r) ≡ tag n ys m → write_count w (z ∷ r) ≡ tag (mag z) (bytes w (mag z)) r
    good z r q = of (below (2 ^ (8 * w)) z) q
      where
        of : (b : Bool) → pick b (tag (mag z) (bytes w (mag z)) r) (bad 29) ≡ tag n ys m → pick b (tag (mag z) (bytes w (mag z)) r) (bad 29) ≡ tag (mag z) (bytes w (mag z)) r
        of true p = refl
        of false p = untagged p

    none : write_count w [] ≡ tag n ys m → ⊥
    none q = untagged q

    by : (l : List ℤ) → drop at s ≡ l → Counted w s at
    by [] d = absurd (none (ap (write_count w) (sym d) ∙ e))
    by (z ∷ r) d =
        let l : at < length s = omega (arith, length-drop at s, ap length d) in
        let h = here s at l in
        record { inside = l; tagged = ap (write_count w) h ∙ good (get_or s at (pos 0)) (drop (at + 1) s) (ap (write_count w) (sym h) ∙ e) }

-- ---- heads

pub record Headed (v d t : ℕ) (s : List ℤ) (at : ℕ) : Type 0 where
  pub inside : at < length s
  pub null : mag (get_or s at (pos 0)) ≡ 0 → write_head (pitsurv v) d t (drop at s) ≡ tag 0 (0 ∷ []) (drop (at + 1) s)
  pub some : (mag (get_or s at (pos 0)) ≡ 0 → ⊥) → write_head (pitsurv v) d t (drop at s) ≡ tag (mag (get_or s at (pos 0))) (header (pitsurv v) (mag (get_or s at (pos 0)))) (drop (at + 1) s)

zero_mag : (z : ℤ) → below 1 z ≡ true → mag z ≡ 0
zero_mag (pos zero) e = refl
zero_mag (pos (suc n)) e = absurd (let l : suc n < 1 = ltb-true (suc n) 1 e in omega arith)
zero_mag (negsuc n) e = never e refl

-- what a head comes to, where it is one
abbrev Fine : ℕ → ℕ → List ℕ → List ℤ → ℤ → List ℤ → Tag ℤ ℕ → Type 0
Fine v n ys m z r X = X ≡ tag n ys m → (mag z ≡ 0 → X ≡ tag 0 (0 ∷ []) r) × ((mag z ≡ 0 → ⊥) → X ≡ tag (mag z) (header (pitsurv v) (mag z)) r)

head-fine : (v d t : ℕ) (s : List ℤ) (at : ℕ) → at ≤ length s → (n : ℕ) (ys : List ℕ) (m : List ℤ) → write_head (pitsurv v) d t (drop at s) ≡ tag n ys m → Headed v d t s at
unfolding write_head
head-fine v d t s at i n ys m e = by (drop at s) refl
  where
    good : (z : ℤ) (r : List ℤ) → Fine v n ys m z r (write_head (pitsurv v) d t (z ∷ r))
    good z r =
        pick_all (Fine v n ys m z r) (below 1 z) (λ b q. (λ y. refl, λ y. absurd (y (zero_mag z b))))
        (λ b. pick_all (Fine v n ys m z r) (eqb d 0) (λ f q. untagged q)
        (λ f. pick_all (Fine v n ys m z r) (typed_by_lem (pitsurv v) t z)
        (λ h q. (λ y. absurd (let l = typed-least (pitsurv v) t (mag z) (typed_by_mag (pitsurv v) t z h).1 in let x : ⊥ = omega (arith, l, y) in x), λ y. refl))
        (λ h q. untagged q)))

    none : write_head (pitsurv v) d t [] ≡ tag n ys m → ⊥
    none q = untagged q

    by : (l : List ℤ) → drop at s ≡ l → Headed v d t s at
    by [] x = absurd (none (ap (write_head (pitsurv v) d t) (sym x) ∙ e))
    by (z ∷ r) x =
        let l : at < length s = omega (arith, length-drop at s, ap length x) in
        let h = here s at l in
        let g = good (get_or s at (pos 0)) (drop (at + 1) s) (ap (write_head (pitsurv v) d t) (sym h) ∙ e) in
        record { inside = l; null = λ y. ap (write_head (pitsurv v) d t) h ∙ g.0 y; some = λ y. ap (write_head (pitsurv v) d t) h ∙ g.1 y }

-- ---- a row

-- row i at a place of the list, with what is ahead
pub record Placed (v d i : ℕ) (s : List ℤ) (at q room : ℕ) : Type 0 where
  pub row : Here v i
  pub within : at ≤ length s
  pub ahead : Ahead (write_row v d i (drop at s)) q room

module _ {v d i : ℕ} {s : List ℤ} {at q room : ℕ} (P : Placed v d i s at q room) where
  abbrev H : Here v i
  H = P.row

  abbrev f : Row
  f = get_or (rows_of (pitsurv v)) i nothing

  abbrev Writes : Write
  Writes = write_row v d i (drop at s)

  pub small : (H.code ≡ 6 → ⊥) → H.arg ≤ 8
  small k = (wide-some (widths H k).wide).1

  -- no count
  module _ (z : H.count ≡ 0) where
    pub object-ahead : H.code ≡ 6 → Ahead (write_object v d H.arg (drop at s)) q room
    object-ahead k = ahead_as (one-object H writing d z k (drop at s)) P.ahead

    pub object-laid : H.code ≡ 6 → {out : List ℕ} (p' q' : ℕ) (out' : List ℕ) → Lays s out q (write_object v d H.arg (drop at s)) p' q' out' → Lays s out q Writes p' q' out'
    object-laid k {out} p' q' out' g = laid_as p' q' out' (one-object H writing d z k (drop at s)) g

    module _ (k : H.code ≡ 6 → ⊥) (n : ℕ) (ns : n ≡ cell (packed_of v) i 1) where
      same : Writes ≡ repeat n (write_value f.kind H.arg) (drop at s)
      same = many-values H writing d z k n ns (drop at s)

      values : Many f.kind H.arg (small k) n s at q room
      values = many f.kind H.arg (small k) n s at q room P.within (ahead_as same P.ahead)

      pub values-room : (at + n ≤ length s) × (q + n * H.arg ≤ room)
      values-room = (values.enough, values.fits)

      pub values-laid : {out : List ℕ} (out' : List ℕ) → out' ≡ sets out q (spelled n H.arg (drop at s)) → Lays s out q Writes (at + n) (q + n * H.arg) out'
      values-laid {out} out' o = laid_as (at + n) (q + n * H.arg) out' same (many-laid f.kind H.arg (small k) n s at q room values out' o)

      -- one value
      module _ (e : n ≡ 1) where
        times : n * H.arg ≡ H.arg
        times = ap (λ (m : ℕ). m * H.arg) e ∙ (let y : 1 * H.arg ≡ H.arg = omega arith in y)

        pub single-room : (at + 1 ≤ length s) × (q + H.arg ≤ room)
        single-room = (omega (arith, values-room.0, e), omega (arith, values-room.1, times))

        pub single-laid : {out : List ℕ} (out' : List ℕ) → out' ≡ sets out q (bytes H.arg (unsigned 64 (get_or s at (pos 0)))) → Lays s out q Writes (at + 1) (q + H.arg) out'
        single-laid {out} out' o =
            let u = unsigned 64 (get_or s at (pos 0)) in
            let l : at < length s = omega (arith, single-room.0) in
            let one : spelled n H.arg (drop at s) ≡ bytes H.arg u =
            ap (λ (m : ℕ). spelled m H.arg (drop at s)) e ∙ ap (spelled 1 H.arg) (here s at l) ∙ append-nil (bytes H.arg u) in
            subst (λ (j : ℕ). Lays s out q Writes (at + 1) (q + j) out') times (subst (λ (j : ℕ). Lays s out q Writes (at + j) (q + n * H.arg) out') e (values-laid out' (o ∙ ap (sets out q) (sym one))))

  -- an array: its count, and then K
  module _ (K : ℕ → List ℤ → Write) (is : Writes ≡ after (write_count H.count (drop at s)) K) where
    opened : Ahead (after (write_count H.count (drop at s)) K) q room
    opened = ahead_as is P.ahead

    counted : Counted H.count s at
    counted =
        let t = ahead-tag opened in
        count-fine H.count s at P.within t.number t.ys t.mid t.first

    module _ (n : ℕ) (ns : n ≡ mag (get_or s at (pos 0))) where
      tagged : write_count H.count (drop at s) ≡ tag n (bytes H.count n) (drop (at + 1) s)
      tagged = counted.tagged ∙ ap (λ (j : ℕ). tag j (bytes H.count j) (drop (at + 1) s)) (sym ns)

      pub items-ahead : (q + H.count ≤ room) × Ahead (K n (drop (at + 1) s)) (q + H.count) room
      items-ahead =
          let a = after-ahead s K n (bytes H.count n) (at + 1) tagged opened in
          let l = length-bytes H.count n in
          (omega (arith, a.0, l), subst (λ (j : ℕ). Ahead (K n (drop (at + 1) s)) (q + j) room) l a.1)

      pub items-laid : {out o1 : List ℕ} → o1 ≡ sets out q (bytes H.count n) → (p' q' : ℕ) (out' : List ℕ) → Lays s o1 (q + H.count) (K n (drop (at + 1) s)) p' q' out' → Lays s out q Writes p' q' out'
      items-laid {out} o p' q' out' g =
          let w : at + 1 ≤ length s = omega (arith, counted.inside) in
          laid_as p' q' out' is
          (after-laid s K n (bytes H.count n) (at + 1) tagged w o (ap (λ (j : ℕ). q + j) (sym (length-bytes H.count n))) p' q' out' g)

  pub count-inside : (H.count ≡ 0 → ⊥) → at < length s
  count-inside z = by (eqb H.code 6) refl
    where
      by : (b : Bool) → eqb H.code 6 ≡ b → at < length s
      by true e = (counted (λ n. repeat n (write_object v d H.arg)) (many_objects H writing d z (eqb-true H.code 6 e) (drop at s))).inside
      by false e = (counted (λ n. repeat n (write_value f.kind H.arg)) (chars H writing d z (eqb-false H.code 6 e) (drop at s))).inside

  pub count_room : (H.count ≡ 0 → ⊥) → q + H.count ≤ room
  count_room z = by (eqb H.code 6) refl
    where
      by : (b : Bool) → eqb H.code 6 ≡ b → q + H.count ≤ room
      by true e = (items-ahead (λ n. repeat n (write_object v d H.arg)) (many_objects H writing d z (eqb-true H.code 6 e) (drop at s)) (mag (get_or s at (pos 0))) refl).0
      by false e = (items-ahead (λ n. repeat n (write_value f.kind H.arg)) (chars H writing d z (eqb-false H.code 6 e) (drop at s)) (mag (get_or s at (pos 0))) refl).0

  module _ (z : H.count ≡ 0 → ⊥) (n : ℕ) (ns : n ≡ mag (get_or s at (pos 0))) where
    module _ (k : H.code ≡ 6) where
      abbrev Objects : ℕ → List ℤ → Write
      Objects n = repeat n (write_object v d H.arg)

      pub objects-ahead : Ahead (repeat n (write_object v d H.arg) (drop (at + 1) s)) (q + H.count) room
      objects-ahead = (items-ahead Objects (many_objects H writing d z k (drop at s)) n ns).1

      pub objects-laid : {out o1 : List ℕ} → o1 ≡ sets out q (bytes H.count n) → (p' q' : ℕ) (out' : List ℕ) → Lays s o1 (q + H.count) (repeat n (write_object v d H.arg) (drop (at + 1) s)) p' q' out' → Lays s out q Writes p' q' out'
      objects-laid o p' q' out' g = items-laid Objects (many_objects H writing d z k (drop at s)) n ns o p' q' out' g

    module _ (k : H.code ≡ 6 → ⊥) where
      abbrev Chars : ℕ → List ℤ → Write
      Chars n = repeat n (write_value f.kind H.arg)

      texts : Many f.kind H.arg (small k) n s (at + 1) (q + H.count) room
      texts =
          let w : at + 1 ≤ length s = omega (arith, count-inside z) in
          many f.kind H.arg (small k) n s (at + 1) (q + H.count) room w (items-ahead Chars (chars H writing d z k (drop at s)) n ns).1

      pub chars-room : (at + 1 + n ≤ length s) × (q + H.count + n * H.arg ≤ room)
      chars-room = (texts.enough, texts.fits)

      pub chars-laid : {out o1 : List ℕ} → o1 ≡ sets out q (bytes H.count n) → (out' : List ℕ) → out' ≡ sets o1 (q + H.count) (spelled n H.arg (drop (at + 1) s)) → Lays s out q Writes (at + 1 + n) (q + H.count + n * H.arg) out'
      chars-laid o out' g =
          items-laid Chars (chars H writing d z k (drop at s)) n ns o (at + 1 + n) (q + H.count + n * H.arg) out'
          (many-laid f.kind H.arg (small k) n s (at + 1) (q + H.count) room texts out' g)

-- ---- an object

abbrev pub Object : ℕ → ℕ → ℕ → List ℤ → ℕ → ℕ → ℕ → Type 0
Object v = ObjectAt (writing (pitsurv v)) (pitsurv v)

module _ {v d t : ℕ} {s : List ℤ} {at q room : ℕ} (P : Object v d t s at q room) where
  abbrev W : Way ℤ ℕ
  W = writing (pitsurv v)

  head : Headed v d t s at
  head = let g = its-head W (pitsurv v) P in head-fine v d t s at P.within g.number g.ys g.mid g.first

  pub first-inside : at < length s
  first-inside = head.inside

  module _ (n : ℕ) (ns : n ≡ mag (get_or s at (pos 0))) where
    module _ (z : n ≡ 0) where
      null-tag : write_head (pitsurv v) d t (drop at s) ≡ tag 0 (0 ∷ []) (drop (at + 1) s)
      null-tag = head.null (sym ns ∙ z)

      pub null-room : q + 1 ≤ room
      null-room = null-fits W (pitsurv v) P refl (0 ∷ []) (at + 1) null-tag

      pub null-laid : {out : List ℕ} (out' : List ℕ) → out' ≡ sets out q (0 ∷ []) → Lays s out q (write_object v d t (drop at s)) (at + 1) (q + 1) out'
      null-laid out' o = lays-null W (pitsurv v) P refl (0 ∷ []) (at + 1) null-tag (omega (arith, first-inside)) (q + 1) out' o refl

    module _ (z : n ≡ 0 → ⊥) where
      some-tag : write_head (pitsurv v) d t (drop at s) ≡ tag n (header (pitsurv v) n) (drop (at + 1) s)
      some-tag = head.some (λ y. z (ns ∙ y)) ∙ ap (λ (j : ℕ). tag j (header (pitsurv v) j) (drop (at + 1) s)) (sym ns)

      some : Some (pitsurv v) d n
      some = write-some (pitsurv v) d t n z (drop at s) some-tag

      pub some-deep : 0 < d
      some-deep = some.deep

      pub some-typed : n < 8
      some-typed = some.within

      behind : q + 15 ≡ q + length (header (pitsurv v) n)
      behind = ap (λ (j : ℕ). q + j) (sym (header-length (pitsurv v) n))

      pub some-ahead : (q + 15 ≤ room) × Ahead (write_fields v (d - 1) (fields_of (pitsurv v) n) (drop (at + 1) s)) (q + 15) room
      some-ahead = some_fits W (pitsurv v) P n (header (pitsurv v) n) (at + 1) some-tag some-deep (q + 15) behind

      pub some-laid : {out o1 : List ℕ} → o1 ≡ sets out q (header (pitsurv v) n) → (p' q' : ℕ) (out' : List ℕ) → Lays s o1 (q + 15) (write_fields v (d - 1) (fields_of (pitsurv v) n) (drop (at + 1) s)) p' q' out' → Lays s out q (write_object v d t (drop at s)) p' q' out'
      some-laid o p' q' out' g = lays-some W (pitsurv v) P n (header (pitsurv v) n) (at + 1) some-tag some-deep (omega (arith, first-inside)) o behind p' q' out' g
