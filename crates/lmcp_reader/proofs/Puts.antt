-- The walk that writes: what is not refused as a whole is refused nowhere, and each step lays what it reads. Assumes nothing.
use Rattle.wire.proofs.Basics.{◌∙◌, sym, ◌≡◌, ap, refl, subst, ℕ, ◌≤◌, ◌+◌, ◌<◌, ◌-◌, suc, zero, ◌*◌, List, [], ◌∷◌, true, false, Bool, length, drop, get_or, length-drop, set, drop-drop, sets, eqb, ltb}
use Rattle.wire.proofs.Basics.{leb, ℤ, pos, eqb-true, ltb-false, ltb-true, eqb-false, arith}
use Rattle.wire.specs.Choice.{pick}
use Rattle.wire.specs.Bytes.{be, Number}
use Rattle.wire.specs.Signed.{signed}
use Rattle.wire.proofs.Choices.{never}
use Rattle.lmcp.specs.declared.Row.{Row}
use Rattle.lmcp.specs.Run.{got, tag, prepend, and_then, after, repeat}
use Rattle.lmcp.specs.Table.{signed_kind, rows_of, fields_of, nothing, pitsurv}
use Rattle.lmcp.specs.Value.{fault, number_of}
use Rattle.lmcp.specs.Read.{Read, reading, read_value, read_count, read_head}
use Rattle.lmcp.specs.Walk.{Way, is_null}
use Rattle.lmcp.specs.InsideAhead.{Few0, Lays}
use Rattle.lmcp.proofs.WalkPlaces.{made}
use Rattle.lmcp.proofs.RunParts.{then-got}
use Rattle.lmcp.proofs.Aheads.{ahead_as, laid_as, ahead-tag, after-ahead, after-laid, ObjectAt, its-head, null-fits, lays-null, some_fits, lays-some}
use Rattle.lmcp.proofs.RowWays.{Here, few_bytes, plain_row, one-object, one_value, many-values, many_objects, chars}
use Rattle.lmcp_check.specs.InsideSteps.{read_object, read_row, read_fields}
use Rattle.lmcp.proofs.Heads.{read-headed, read_some}
use Rattle.lmcp_check.proofs.ReadCases.{number_is, count-short, count-good, value-short, value-bad, value-good, head-short, head-null, head-known, root-some}
use Rattle.lmcp.specs.Packed.{packed_of}
use Rattle.lmcp.specs.InsidePacked.{cell, width_of}
use Rattle.lmcp_reader.specs.InsidePuts.{Ahead, coded, bytes_as_numbers}
use Rattle.lmcp_reader.proofs.Arrays.{width_is, of-bytes}

-- ---- heads

pub record Head-fine (v d t : ℕ) (l : List ℕ) : Type 0 where
  pub long : 1 ≤ length l
  pub null : be 1 l ≡ 0 → read_head (pitsurv v) d t l ≡ tag 0 (pos 0 ∷ []) (drop 1 l)
  pub deep : (be 1 l ≡ 0 → ⊥) → 0 < d
  pub enough : (be 1 l ≡ 0 → ⊥) → 15 ≤ length l
  pub typed : (be 1 l ≡ 0 → ⊥) → be 4 (drop 8 (drop 1 l)) < 8
  pub some : (be 1 l ≡ 0 → ⊥) → read_head (pitsurv v) d t l ≡ tag (be 4 (drop 8 (drop 1 l))) (pos (be 4 (drop 8 (drop 1 l))) ∷ []) (drop 14 (drop 1 l))

module _ (v d t : ℕ) (l : List ℕ) (n : ℕ) (ys : List ℤ) (m : List ℕ) (e : read_head (pitsurv v) d t l ≡ tag n ys m) where
  is-long : (b : Bool) → ltb (length l) 1 ≡ b → 1 ≤ length l
  is-long true h = absurd (let x = head-short (pitsurv v) d t l (ltb-true (length l) 1 h) in let z : ◌≡◌ {A = ℕ} 0 1 = cc (e, x) in omega arith)
  is-long false h = ltb-false (length l) 1 h

  not_null : (be 1 l ≡ 0 → ⊥) → n ≡ 0 → ⊥
  not_null z q = never (ap (λ (j : ℕ). is_null {A = ℕ} {B = ℤ} (tag j ys m)) q) (ap is_null (sym e) ∙ root-some (pitsurv v) d t l z)

  pub head-fine : Head-fine v d t l
  head-fine =
      record {
        long = is-long (ltb (length l) 1) refl;
        null = λ z. head-null (pitsurv v) d t l (is-long (ltb (length l) 1) refl) (be 1 l) refl z;
        deep = λ z. (read_some (pitsurv v) d t n (not_null z) l e).deep;
        enough = λ z. is-enough z;
        typed = λ z. subst (λ (j : ℕ). j < 8) (sym (read-headed (pitsurv v) d t n (not_null z) l e).number) (read_some (pitsurv v) d t n (not_null z) l e).within;
        some = λ z.
            let h = read-headed (pitsurv v) d t n (not_null z) l e in
            let deep : d ≡ 0 → ⊥ = eqb-false d 0 h.deep in
            head-known (pitsurv v) d t l (is-long (ltb (length l) 1) refl) (be 1 l) refl (ltb-false 1 (be 1 l) h.most) z deep (is-enough z) (be 4 (drop 8 (drop 1 l))) (sym h.is_known) refl;
      }
    where
      is-enough : (be 1 l ≡ 0 → ⊥) → 15 ≤ length l
      is-enough z =
          let h = read-headed (pitsurv v) d t n (not_null z) l e in
          let k = ltb-false (length (drop 1 l)) 14 h.enough in
          omega (arith, k, length-drop 1 l)

-- ---- values

module _ (k w : ℕ) (l : List ℕ) (ys : List ℤ) (m : List ℕ) (e : read_value k w l ≡ got ys m) where
  value-long : (b : Bool) → ltb (length l) w ≡ b → w ≤ length l
  value-long true h = absurd (let x = value-short k w l (ltb-true (length l) w h) in let z : ◌≡◌ {A = ℕ} 0 1 = cc (e, x) in omega arith)
  value-long false h = ltb-false (length l) w h

  value-sound : w ≤ length l → (b : Bool) → eqb (fault k (be w l)) 0 ≡ b → fault k (be w l) ≡ 0
  value-sound h true f = eqb-true (fault k (be w l)) 0 f
  value-sound h false f = absurd (let x = value-bad k w l h (be w l) (fault k (be w l)) refl refl (eqb-false (fault k (be w l)) 0 f) in let z : ◌≡◌ {A = ℕ} 0 1 = cc (e, x) in omega arith)

  pub value-fine : (w ≤ length l) × (read_value k w l ≡ got (number_of k w (be w l) ∷ []) (drop w l))
  value-fine =
      let h = value-long (ltb (length l) w) refl in
      (h, value-good k w l h (be w l) (fault k (be w l)) (number_of k w (be w l)) refl refl (value-sound h (eqb (fault k (be w l)) 0) refl) refl)

pub length-bytes : (n : ℕ) (l : List ℕ) → length (bytes_as_numbers n l) ≡ n
length-bytes zero l = refl
length-bytes (suc n) l = ap suc (length-bytes n (drop 1 l))

-- n values of a byte each
module _ (k : ℕ) (plain : (l : List ℕ) → number_of k 1 (be 1 l) ≡ pos (be 1 l)) where
  abbrev g : List ℕ → Read
  g = read_value k 1

  bytes-fine : (n : ℕ) (l : List ℕ) (zs : List ℤ) (r : List ℕ) → repeat n g l ≡ got zs r → (n ≤ length l) × (repeat n g l ≡ got (bytes_as_numbers n l) (drop n l))
  unfolding repeat and_then prepend
  bytes-fine zero l zs r e = (omega arith, refl)
  bytes-fine (suc n) l zs r e =
      let t = then-got (g l) (repeat n g) zs r e in
      let f = value-fine k 1 l t.ys t.mid t.first in
      let x : got t.ys t.mid ≡ got (number_of k 1 (be 1 l) ∷ []) (drop 1 l) = sym t.first ∙ f.1 in
      let b : t.mid ≡ drop 1 l = cc in
      let y = bytes-fine n (drop 1 l) t.more r (ap (repeat n g) (sym b) ∙ t.then) in
      let m : 1 + n ≡ suc n = omega arith in (
        omega (arith, f.0, y.0, length-drop 1 l),
        ap (λ (X : Read). and_then X (repeat n g)) f.1 ∙ ap (prepend (number_of k 1 (be 1 l) ∷ [])) y.1
            ∙ ap (λ (j : ℤ). got (j ∷ bytes_as_numbers n (drop 1 l)) (drop n (drop 1 l))) (plain l)
            ∙ ap (got (pos (be 1 l) ∷ bytes_as_numbers n (drop 1 l))) (drop-drop n 1 l ∙ ap (λ (j : ℕ). drop j l) m),
      )

-- ---- the codes of the table

cases6 : (P : ℕ → Type 0) → P 0 → P 1 → P 2 → P 3 → P 4 → P 5 → (c : ℕ) → c ≤ 5 → P c
cases6 P a b d e f g zero h = a
cases6 P a b d e f g (suc zero) h = b
cases6 P a b d e f g (suc (suc zero)) h = d
cases6 P a b d e f g (suc (suc (suc zero))) h = e
cases6 P a b d e f g (suc (suc (suc (suc zero)))) h = f
cases6 P a b d e f g (suc (suc (suc (suc (suc zero))))) h = g
cases6 P a b d e f g (suc (suc (suc (suc (suc (suc c)))))) h = absurd (let z : ⊥ = omega arith in z)

pub codes-are : (k w c : ℕ) → c ≤ 5 → eqb k signed_kind ≡ leb 3 c → w ≡ width_of c → (l : List ℕ) → number_of k w (be w l) ≡ coded c l
unfolding number_of
codes-are k w c h e f l =
    ap (λ (j : ℕ). pick (eqb k signed_kind) (signed (8 * j) (be j l)) (pos (be j l))) f
    ∙ ap (λ (b : Bool). pick b (signed (8 * width_of c) (be (width_of c) l)) (pos (be (width_of c) l))) e
    ∙ cases6 (λ c. pick (leb 3 c) (signed (8 * width_of c) (be (width_of c) l)) (pos (be (width_of c) l)) ≡ coded c l) refl refl refl refl refl refl c h

-- ---- a row

-- row i at a place, with what is ahead
pub record Placed (v d i : ℕ) (s : List ℕ) (at q : ℕ) : Type 0 where
  pub row : Here v i
  pub within : at ≤ length s
  pub ahead : Ahead (read_row v d i (drop at s)) q

module _ {v d i : ℕ} {s : List ℕ} {at q : ℕ} (P : Placed v d i s at q) where
  abbrev H : Here v i
  H = P.row

  abbrev f : Row
  f = get_or (rows_of (pitsurv v)) i nothing

  abbrev c : ℕ
  c = H.code

  abbrev w : ℕ
  w = H.count

  abbrev arg : ℕ
  arg = H.arg

  abbrev Reads : Read
  Reads = read_row v d i (drop at s)

  -- no count
  module _ (z : w ≡ 0) (k : c ≡ 6) where
    pub object-ahead : Ahead (read_object v d arg (drop at s)) q
    object-ahead = ahead_as (one-object H reading d z k (drop at s)) P.ahead

    pub object-laid : {list : List ℤ} (p' q' : ℕ) (list' : List ℤ) → Lays s list q (read_object v d arg (drop at s)) p' q' list' → Lays s list q Reads p' q' list'
    object-laid p' q' list' g = laid_as p' q' list' (one-object H reading d z k (drop at s)) g

  -- values
  module _ (k : c ≡ 6 → ⊥) where
    code-value : (l : List ℕ) → number_of f.kind arg (be arg l) ≡ coded c l
    code-value l = codes-are f.kind arg c (omega (arith, (plain_row H k).most, H.code_is)) ((plain_row H k).signs ∙ ap (leb 3) (sym H.code_is)) (width_is H k) l

    abbrev Values : ℕ → List ℕ → Read
    Values n = repeat n (read_value f.kind arg)

    -- many of them are bytes
    module _ (bytes : (c ≡ 0) × (arg ≡ 1)) where
      byte-value : (l : List ℕ) → number_of f.kind 1 (be 1 l) ≡ pos (be 1 l)
      byte-value l = ap (λ (j : ℕ). number_of f.kind j (be j l)) (sym bytes.1) ∙ code-value l ∙ ap (λ (j : ℕ). coded j l) bytes.0

      all-bytes : (n : ℕ) (l : List ℕ) (q' : ℕ) → Ahead (Values n l) q' → (n ≤ length l) × ((q' + n ≤ 4294967296) × (Values n l ≡ got (bytes_as_numbers n l) (drop n l)))
      all-bytes n l q' a =
          let e : Values n l ≡ repeat n (read_value f.kind 1) l = ap (λ (j : ℕ). repeat n (read_value f.kind j) l) bytes.1 in
          let y = bytes-fine f.kind byte-value n l a.ys a.rest (sym e ∙ a.is) in
          let x : got a.ys a.rest ≡ got (bytes_as_numbers n l) (drop n l) = sym a.is ∙ e ∙ y.1 in
          let b : a.ys ≡ bytes_as_numbers n l = cc in
          (y.0, (omega (arith, a.fits, ap length b ∙ length-bytes n l), e ∙ y.1))

    module _ (z : w ≡ 0) (n : ℕ) (ns : n ≡ cell (packed_of v) i 1) where
      -- one value
      module _ (e : n ≡ 1) where
        one-is : (arg ≤ length (drop at s)) × (Reads ≡ got (coded c (drop at s) ∷ []) (drop (at + arg) s))
        one-is =
            let r = one_value H reading d z k n ns e (drop at s) in
            let a = ahead_as r P.ahead in
            let y = value-fine f.kind arg (drop at s) a.ys a.rest a.is in
            (y.0, r ∙ y.1 ∙ ap (λ (j : ℤ). got (j ∷ []) (drop arg (drop at s))) (code-value (drop at s)) ∙ ap (got (coded c (drop at s) ∷ [])) (drop-drop arg at s))

        pub single-room : (at + arg ≤ length s) × (q + 1 ≤ 4294967296)
        single-room =
            let a = P.ahead in
            let x : got a.ys a.rest ≡ got (coded c (drop at s) ∷ []) (drop (at + arg) s) = sym a.is ∙ one-is.1 in
            let b : a.ys ≡ coded c (drop at s) ∷ [] = cc in
            (omega (arith, one-is.0, length-drop at s, P.within), omega (arith, a.fits, ap length b))

        pub single-laid : {list : List ℤ} (list' : List ℤ) → list' ≡ set list q (coded c (drop at s)) → Lays s list q Reads (at + arg) (q + 1) list'
        single-laid list' o = made {Few = Few0} (coded c (drop at s) ∷ []) (at + arg) (q + 1) one-is.1 o refl tt single-room.0

      -- more than one, or none
      module _ (e : n ≡ 1 → ⊥) where
        fixed-bytes : (n ≤ length (drop at s)) × ((q + n ≤ 4294967296) × (Reads ≡ got (bytes_as_numbers n (drop at s)) (drop (at + n) s)))
        fixed-bytes =
            let r = many-values H reading d z k n ns (drop at s) in
            let y = all-bytes (of-bytes H k (λ _ one. e (ns ∙ one))) n (drop at s) q (ahead_as r P.ahead) in
            (y.0, (y.1.0, r ∙ y.1.1 ∙ ap (got (bytes_as_numbers n (drop at s))) (drop-drop n at s)))

        pub values-room : (at + n ≤ length s) × (q + n ≤ 4294967296)
        values-room = (omega (arith, fixed-bytes.0, length-drop at s, P.within), fixed-bytes.1.0)

        pub values-laid : {list : List ℤ} (list' : List ℤ) → list' ≡ sets list q (bytes_as_numbers n (drop at s)) → Lays s list q Reads (at + n) (q + n) list'
        values-laid list' o =
            made {Few = Few0} (bytes_as_numbers n (drop at s)) (at + n) (q + n) fixed-bytes.1.1 o (ap (λ (m : ℕ). q + m) (sym (length-bytes n (drop at s)))) tt values-room.0

  -- an array: its count, and then K
  module _ (K : ℕ → List ℕ → Read) (is : Reads ≡ after (read_count w (drop at s)) K) where
    opened : Ahead (after (read_count w (drop at s)) K) q
    opened = ahead_as is P.ahead

    count_long : (b : Bool) → ltb (length (drop at s)) w ≡ b → w ≤ length (drop at s)
    count_long true e = absurd (let x = count-short 0 w (drop at s) (ltb-true _ _ e) in let y : ◌≡◌ {A = ℕ} 0 1 = cc (x, (ahead-tag opened).first) in omega arith)
    count_long false e = ltb-false _ _ e

    inside-by : at + w ≤ length s
    inside-by = let l = count_long (ltb (length (drop at s)) w) refl in omega (arith, l, length-drop at s, P.within)

    module _ (n : ℕ) (number : Number s at w n) where
      tagged : read_count w (drop at s) ≡ tag n (pos n ∷ []) (drop (at + w) s)
      tagged =
          let e = number_is s at w n (omega (arith, few_bytes H)) number in
          count-good 0 w (drop at s) (count_long (ltb (length (drop at s)) w) refl) n e.0 ∙ ap (tag n (pos n ∷ [])) (drop-drop w at s)

      ahead-by : (q < 4294967296) × Ahead (K n (drop (at + w) s)) (q + 1)
      ahead-by = let a = after-ahead s K n (pos n ∷ []) (at + w) tagged opened in (omega (arith, a.0), a.1)

      laid_by : {list l1 : List ℤ} → l1 ≡ set list q (pos n) → (p' q' : ℕ) (list' : List ℤ) → Lays s l1 (q + 1) (K n (drop (at + w) s)) p' q' list' → Lays s list q Reads p' q' list'
      laid_by o p' q' list' g = laid_as p' q' list' is (after-laid s K n (pos n ∷ []) (at + w) tagged inside-by o refl p' q' list' g)

  module _ (z : w ≡ 0 → ⊥) where
    pub few : w ≤ 7
    few = few_bytes H

    abbrev Objects : ℕ → List ℕ → Read
    Objects n = repeat n (read_object v d arg)

    abbrev Chars : ℕ → List ℕ → Read
    Chars n = repeat n (read_value f.kind arg)

    pub count-inside : at + w ≤ length s
    count-inside = by (eqb c 6) refl
      where
        by : (b : Bool) → eqb c 6 ≡ b → at + w ≤ length s
        by true e = inside-by Objects (many_objects H reading d z (eqb-true c 6 e) (drop at s))
        by false e = inside-by Chars (chars H reading d z (eqb-false c 6 e) (drop at s))

    module _ (n : ℕ) (number : Number s at w n) where
      pub count_room : q < 4294967296
      count_room = by (eqb c 6) refl
        where
          by : (b : Bool) → eqb c 6 ≡ b → q < 4294967296
          by true e = (ahead-by Objects (many_objects H reading d z (eqb-true c 6 e) (drop at s)) n number).0
          by false e = (ahead-by Chars (chars H reading d z (eqb-false c 6 e) (drop at s)) n number).0

      module _ (k : c ≡ 6) where
        pub objects-ahead : Ahead (repeat n (read_object v d arg) (drop (at + w) s)) (q + 1)
        objects-ahead = (ahead-by Objects (many_objects H reading d z k (drop at s)) n number).1

        pub objects-laid : {list l1 : List ℤ} → l1 ≡ set list q (pos n) → (p' q' : ℕ) (list' : List ℤ) → Lays s l1 (q + 1) (repeat n (read_object v d arg) (drop (at + w) s)) p' q' list' → Lays s list q Reads p' q' list'
        objects-laid o p' q' list' g = laid_by Objects (many_objects H reading d z k (drop at s)) n number o p' q' list' g

      module _ (k : c ≡ 6 → ⊥) where
        text : (n ≤ length (drop (at + w) s)) × ((q + 1 + n ≤ 4294967296) × (Chars n (drop (at + w) s) ≡ got (bytes_as_numbers n (drop (at + w) s)) (drop n (drop (at + w) s))))
        text = all-bytes k (of-bytes H k (λ none _. z none)) n (drop (at + w) s) (q + 1) (ahead-by Chars (chars H reading d z k (drop at s)) n number).1

        pub chars-room : (at + w + n ≤ length s) × (q + 1 + n ≤ 4294967296)
        chars-room = (omega (arith, text.0, length-drop (at + w) s, count-inside), text.1.0)

        pub chars-laid : {list l1 : List ℤ} → l1 ≡ set list q (pos n) → (list' : List ℤ) → list' ≡ sets l1 (q + 1) (bytes_as_numbers n (drop (at + w) s)) → Lays s list q Reads (at + w + n) (q + 1 + n) list'
        chars-laid o list' p =
            let all = bytes_as_numbers n (drop (at + w) s) in
            laid_by Chars (chars H reading d z k (drop at s)) n number o (at + w + n) (q + 1 + n) list'
            (made {Few = Few0} all (at + w + n) (q + 1 + n) (text.1.1 ∙ ap (got all) (drop-drop n (at + w) s)) p (ap (λ (m : ℕ). q + 1 + m) (sym (length-bytes n (drop (at + w) s)))) tt chars-room.0)

-- ---- an object

abbrev pub Object : ℕ → ℕ → ℕ → List ℕ → ℕ → ℕ → Type 0
Object v d t s at q = ObjectAt (reading (pitsurv v)) (pitsurv v) d t s at q 4294967296

module _ {v d t : ℕ} {s : List ℕ} {at q : ℕ} (P : Object v d t s at q) where
  abbrev W : Way ℕ ℤ
  W = reading (pitsurv v)

  head : Head-fine v d t (drop at s)
  head = let g = its-head W (pitsurv v) P in head-fine v d t (drop at s) g.number g.ys g.mid g.first

  pub first-inside : at < length s
  first-inside = omega (arith, head.long, length-drop at s)

  module _ (e : ℕ) (is : e ≡ be 1 (drop at s)) where
    module _ (z : e ≡ 0) where
      null-tag : read_head (pitsurv v) d t (drop at s) ≡ tag 0 (pos 0 ∷ []) (drop (at + 1) s)
      null-tag = head.null (sym is ∙ z) ∙ ap (tag 0 (pos 0 ∷ [])) (drop-drop 1 at s)

      pub null-room : q < 4294967296
      null-room = omega (arith, null-fits W (pitsurv v) P refl (pos 0 ∷ []) (at + 1) null-tag)

      pub null-laid : {list : List ℤ} (list' : List ℤ) → list' ≡ set list q (pos 0) → Lays s list q (read_object v d t (drop at s)) (at + 1) (q + 1) list'
      null-laid list' o = lays-null W (pitsurv v) P refl (pos 0 ∷ []) (at + 1) null-tag (omega (arith, first-inside)) (q + 1) list' o refl

    module _ (z : e ≡ 0 → ⊥) where
      y : be 1 (drop at s) ≡ 0 → ⊥
      y b = z (is ∙ b)

      pub some-inside : at + 15 ≤ length s
      some-inside = omega (arith, head.enough y, length-drop at s)

      pub some-deep : 0 < d
      some-deep = head.deep y

      module _ (n : ℕ) (ns : n ≡ be 4 (drop (at + 9) s)) where
        same-type : be 4 (drop 8 (drop 1 (drop at s))) ≡ n
        same-type =
            let p9 : at + 1 + 8 ≡ at + 9 = omega arith in
            ap (be 4) (ap (drop 8) (drop-drop 1 at s) ∙ drop-drop 8 (at + 1) s) ∙ ap (λ (i : ℕ). be 4 (drop i s)) p9 ∙ sym ns

        pub some-typed : n < 8
        some-typed = subst (λ (j : ℕ). j < 8) same-type (head.typed y)

        some-tag : read_head (pitsurv v) d t (drop at s) ≡ tag n (pos n ∷ []) (drop (at + 15) s)
        some-tag =
            let p15 : at + 1 + 14 ≡ at + 15 = omega arith in
            head.some y ∙ ap (λ (j : ℕ). tag j (pos j ∷ []) (drop 14 (drop 1 (drop at s)))) same-type
            ∙ ap (tag n (pos n ∷ [])) (ap (drop 14) (drop-drop 1 at s) ∙ drop-drop 14 (at + 1) s ∙ ap (λ (i : ℕ). drop i s) p15)

        pub some-ahead : (q < 4294967296) × Ahead (read_fields v (d - 1) (fields_of (pitsurv v) n) (drop (at + 15) s)) (q + 1)
        some-ahead = let a = some_fits W (pitsurv v) P n (pos n ∷ []) (at + 15) some-tag some-deep (q + 1) refl in (omega (arith, a.0), a.1)

        pub some-laid : {list l1 : List ℤ} → l1 ≡ set list q (pos n) → (p' q' : ℕ) (list' : List ℤ) → Lays s l1 (q + 1) (read_fields v (d - 1) (fields_of (pitsurv v) n) (drop (at + 15) s)) p' q' list' → Lays s list q (read_object v d t (drop at s)) p' q' list'
        some-laid o p' q' list' g = lays-some W (pitsurv v) P n (pos n ∷ []) (at + 15) some-tag some-deep some-inside o refl p' q' list' g
