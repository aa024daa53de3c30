-- The steps of the walk that checks, by the table's bytes: a run, an object, an array; fields; an object's head. Assumes nothing.
use Rattle.wire.proofs.Basics.{◌∙◌, sym, ◌≡◌, ap, refl, subst, ℕ, ◌≤◌, ◌+◌, ◌<◌, ◌-◌, suc, zero, List, [], ◌∷◌, ◌++◌, length, drop, get_or, take, length-drop, take-append-drop, drop-drop, slice, take-take}
use Rattle.wire.proofs.Basics.{pos, arith}
use Rattle.std.proofs.Common.{Option, Some, None, Result, Ok, Err}
use Rattle.wire.specs.Bytes.{Number}
use Rattle.refusals.specs.declared.Refusal.{Refusal}
use Rattle.refusals.specs.declared.Refusal.TheVariants.{EndsInside}
use Rattle.refusals.specs.Numbers.{number_of}
use Rattle.lmcp.specs.declared.Row.{Row}
use Rattle.lmcp.specs.Run.{refused, tag, and_then, after, repeat}
use Rattle.lmcp.specs.Table.{char_kind, object_kind, rows_of, starts_of, fields_of, nothing, pitsurv}
use Rattle.lmcp.specs.Read.{Read, reading, read_value, read_count, read_head}
use Rattle.lmcp.proofs.WalkPlaces.{item-object, item-value, field_fixed, field-counted, inside, object-is, inside-null, inside-fields, marked-stops, fields-end}
use Rattle.lmcp.proofs.RunParts.{then-nil, repeat-same}
use Rattle.lmcp.proofs.Heads.{read_some}
use Rattle.lmcp_check.specs.InsideSteps.{read_object, read_item, read_field, read_fields}
use Rattle.lmcp_check.proofs.ReadCases.{number_is, count-short, count-good}
use Rattle.lmcp.specs.Packed.{packed_of}
use Rattle.lmcp.specs.InsidePacked.{cell}
use Rattle.lmcp_check.specs.InsideChecks.{Upto, Checks, Typed, Heads, Ran, step_rows}
use Rattle.lmcp_check.proofs.CheckTurns.{made, next, next-stops, ends, same-run, marked-then, fields-append, fields-one}
use Rattle.lmcp_check.proofs.Runs.{ran_checks}
use Rattle.lmcp.proofs.Rows.{row_of, run-says, run-is-row, object-row, count_fits, char-row, objects-row, type-of, few-rows}

-- ---- one step

module _ (v d i : ℕ) (h : i < length (rows_of (pitsurv v))) (s : List ℕ) (at : ℕ) (within : at ≤ length s) (tab : List (List ℕ)) (q : tab ≡ packed_of v) where
  abbrev rows : List Row
  rows = rows_of (pitsurv v)

  abbrev f : Row
  f = get_or rows i nothing

  byte : (j : ℕ) {b : ℕ} → b ≡ cell tab i j → b ≡ cell (packed_of v) i j
  byte j e = e ∙ ap (λ (l : List (List ℕ)). cell l i j) q

  pub step_run : (b e : ℕ) (r : Result ℕ Refusal) → b ≡ cell tab i 4 → (b ≡ 0 → ⊥) → e ≡ cell tab i 6 → Ran s at b e r → Checks s (read_fields v d (step_rows v i) (drop at s)) r
  step_run b e r bs some es g =
      let R = row_of v i h in
      let S = run-says (packed_of v) rows i R (λ z. some (byte 4 bs ∙ z)) in
      ran_checks (pitsurv v) (read_object v d) s at b e r (step_rows v i) within S.is-run (byte 4 bs ∙ S.bytes-are) (byte 6 es ∙ S.bool_is) g

  module _ (b w : ℕ) (bs : b ≡ cell tab i 4) (none : b ≡ 0) (ws : w ≡ cell tab i 0) where
    empty : cell (packed_of v) i 4 ≡ 0
    empty = sym (byte 4 bs) ∙ none

    count-is : w ≡ f.count
    count-is = byte 0 ws ∙ (row_of v i h).count-is

    one : read_fields v d (step_rows v i) (drop at s) ≡ read_field v d f (drop at s)
    one = ap (λ (fs : List Row). read_fields v d fs (drop at s)) (run-is-row (packed_of v) rows i (row_of v i h) empty) ∙ fields-one (reading (pitsurv v)) (read_object v d) f (drop at s)

    pub step-object : w ≡ 0 → (arg : ℕ) (r : Result ℕ Refusal) → arg ≡ cell tab i 3 → Checks s (read_object v d arg (drop at s)) r → Checks s (read_fields v d (step_rows v i) (drop at s)) r
    unfolding repeat
    step-object z arg r args g =
        let o = object-row (packed_of v) rows i (row_of v i h) empty (sym count-is ∙ z) in
        let a : arg ≡ f.arg = byte 3 args ∙ (row_of v i h).arg_is in
        same-run s r
        (one ∙ field_fixed (reading (pitsurv v)) (read_object v d) f (drop at s) (sym count-is ∙ z) ∙ ap (λ (m : ℕ). repeat m (read_item v d f) (drop at s)) o.1
        ∙ then-nil (read_item v d f (drop at s)) ∙ item-object (reading (pitsurv v)) (read_object v d) f (drop at s) o.0 ∙ ap (λ (t : ℕ). read_object v d t (drop at s)) (sym a)) g

    module _ (some : w ≡ 0 → ⊥) where
      counted : read_fields v d (step_rows v i) (drop at s) ≡ after (read_count w (drop at s)) (λ n. repeat n (read_item v d f))
      counted = one ∙ field-counted (reading (pitsurv v)) (read_object v d) f (drop at s) (λ z. some (count-is ∙ z)) ∙ ap (λ (k : ℕ). after (read_count k (drop at s)) (λ n. repeat n (read_item v d f))) (sym count-is)

      pub step_cut : length s - at < w → Checks s (read_fields v d (step_rows v i) (drop at s)) (Err EndsInside)
      step_cut l = counted ∙ marked-stops 25 (λ n. repeat n (read_item v d f)) (count-short 0 w (drop at s) (rw length-drop l))

      pub few : w ≤ 7
      few = let k = count_fits (packed_of v) rows i (row_of v i h) empty (λ z. some (count-is ∙ z)) in omega (arith, k, count-is)

      module _ (l : w ≤ length s - at) (n : ℕ) (number : Number s at w n) (r : Result ℕ Refusal) where
        tagged : read_count w (drop at s) ≡ tag n (pos n ∷ []) (drop (at + w) s)
        tagged =
            let e = number_is s at w n (omega (arith, few)) number in
            count-good 0 w (drop at s) (rw length-drop l) n e.0 ∙ ap (tag n (pos n ∷ [])) (drop-drop w at s)

        items : Checks s (repeat n (read_item v d f) (drop (at + w) s)) r → Checks s (read_fields v d (step_rows v i) (drop at s)) r
        items g = same-run s r counted (marked-then s n (at + w) (pos n ∷ []) tagged (λ n. repeat n (read_item v d f)) r g)

        pub step-chars : (k : ℕ) → k ≡ cell tab i 2 → k ≡ 3 → Checks s (repeat n (read_value char_kind 1) (drop (at + w) s)) r → Checks s (read_fields v d (step_rows v i) (drop at s)) r
        step-chars k ks c g =
            let e : f.kind ≡ char_kind = sym (byte 2 ks ∙ (row_of v i h).kind-is) ∙ c in
            let a = char-row (packed_of v) rows i (row_of v i h) empty (λ z. some (count-is ∙ z)) e in
            items (same-run s r (repeat-same (read_item v d f) (read_value char_kind 1)
            (λ m. item-value (reading (pitsurv v)) (read_object v d) f m (λ z. (let y : ⊥ = omega (arith, z, e) in y)) ∙ ap (λ (j : ℕ). read_value j f.arg m) e ∙ ap (λ (j : ℕ). read_value char_kind j m) a) n (drop (at + w) s)) g)

        pub step_objects : (k arg : ℕ) → k ≡ cell tab i 2 → (k ≡ 3 → ⊥) → arg ≡ cell tab i 3 → Checks s (repeat n (read_object v d arg) (drop (at + w) s)) r → Checks s (read_fields v d (step_rows v i) (drop at s)) r
        step_objects k arg ks c args g =
            let e : f.kind ≡ object_kind = objects-row (packed_of v) rows i (row_of v i h) empty (λ z. some (count-is ∙ z)) (λ z. c (byte 2 ks ∙ (row_of v i h).kind-is ∙ z)) in
            let a : arg ≡ f.arg = byte 3 args ∙ (row_of v i h).arg_is in
            items (same-run s r (repeat-same (read_item v d f) (read_object v d arg)
            (λ m. item-object (reading (pitsurv v)) (read_object v d) f m e ∙ ap (λ (t : ℕ). read_object v d t m) (sym a)) n (drop (at + w) s)) g)

-- ---- fields

split : (i m : ℕ) (x : List Row) → i ≤ m → drop i x ≡ drop i (take m x) ++ drop m x
split zero m x h = sym (take-append-drop m x)
split (suc i) zero x h = absurd (let z : ⊥ = omega arith in z)
split (suc i) (suc m) [] h = refl
split (suc i) (suc m) (y ∷ x) h = split i m x (omega arith)

slice-split : (i m e : ℕ) (x : List Row) → i ≤ m → m ≤ e → slice i e x ≡ slice i m x ++ slice m e x
slice-split i m e x h k = split i m (take e x) h ∙ ap (λ (l : List Row). drop i l ++ drop m (take e x)) (take-take m e x k)

module _ (v d i e : ℕ) (s : List ℕ) (X : Read) (p : ℕ) (u : Upto s X (read_fields v d (slice i e (rows_of (pitsurv v)))) p) where
  module _ (n : ℕ) (is : n ≡ cell (packed_of v) i 5) (m : i + n ≤ e) (r : Result ℕ Refusal) (g : Checks s (read_fields v d (step_rows v i) (drop p s)) r) where
    parts : read_fields v d (slice i e (rows_of (pitsurv v))) (drop p s) ≡ and_then (read_fields v d (step_rows v i) (drop p s)) (read_fields v d (slice (i + n) e (rows_of (pitsurv v))))
    parts =
        ap (λ (fs : List Row). read_fields v d fs (drop p s)) (slice-split i (i + n) e (rows_of (pitsurv v)) (omega arith) m)
        ∙ fields-append (reading (pitsurv v)) (read_object v d) (slice i (i + n) (rows_of (pitsurv v))) (slice (i + n) e (rows_of (pitsurv v))) (drop p s)
        ∙ ap (λ (k : ℕ). and_then (read_fields v d (slice i (i + k) (rows_of (pitsurv v))) (drop p s)) (read_fields v d (slice (i + n) e (rows_of (pitsurv v))))) is

    pub fields-turn : (q : ℕ) → r ≡ Ok q → Upto s X (read_fields v d (slice (i + n) e (rows_of (pitsurv v)))) q
    fields-turn q c = next u (read_fields v d (slice (i + n) e (rows_of (pitsurv v)))) parts (subst (Checks s (read_fields v d (step_rows v i) (drop p s))) c g)

    pub fields-stop : (w : Refusal) → r ≡ Err w → X ≡ refused (number_of w)
    fields-stop w c =
        next-stops u (read_fields v d (slice (i + n) e (rows_of (pitsurv v)))) (number_of w) parts (subst (Checks s (read_fields v d (step_rows v i) (drop p s))) c g)

  pub fields-done : e ≤ i → i ≤ e → Checks s X (Ok p)
  fields-done l k = ends u (fields-end (reading (pitsurv v)) (read_object v d) (rows_of (pitsurv v)) i e (drop p s) l k)

-- no step passes the end of its type
pub step-inside : (v t i e n : ℕ) → t < 8 → e ≡ get_or (starts_of (pitsurv v)) (t + 1) 0 → e ≤ length (rows_of (pitsurv v)) → get_or (starts_of (pitsurv v)) t 0 ≤ i → i < e → n ≡ cell (packed_of v) i 5 → (1 ≤ n) × (i + n ≤ e)
step-inside v t i e n h es k l m is =
    let y = (type-of v t h).inside i (omega (arith, few-rows v)) l (omega (arith, es)) in
    let o = (row_of v i (omega arith)).least in
    (omega (arith, o, is), omega (arith, y, is, es))

-- ---- objects

module _ (v d t : ℕ) (s : List ℕ) (at : ℕ) (h : Result (Option ℕ) Refusal) (g : Heads s at (read_head (pitsurv v) d t (drop at s)) h) where
  given : (k : Result (Option ℕ) Refusal) → h ≡ k → Heads s at (read_head (pitsurv v) d t (drop at s)) k
  given k e = subst (Heads s at (read_head (pitsurv v) d t (drop at s))) e g

  pub object-null : h ≡ Ok None → Checks s (read_object v d t (drop at s)) (Ok (at + 1))
  object-null z =
      let e = given (Ok None) z in
      same-run s (Ok (at + 1)) (object-is (reading (pitsurv v)) (pitsurv v) d t (drop at s))
      (marked-then s 0 (at + 1) (pos 0 ∷ []) e.0 (inside (reading (pitsurv v)) (pitsurv v) d) (Ok (at + 1))
      (made [] (at + 1) (inside-null (reading (pitsurv v)) (pitsurv v) d (drop (at + 1) s) refl) e.1))

  pub object-stops : (w : Refusal) → h ≡ Err w → read_object v d t (drop at s) ≡ refused (number_of w)
  object-stops w z = object-is (reading (pitsurv v)) (pitsurv v) d t (drop at s) ∙ marked-stops (number_of w) (inside (reading (pitsurv v)) (pitsurv v) d) (given (Err w) z)

  module _ (n : ℕ) (z : h ≡ Ok (Some n)) where
    pub object-some : (0 < d) × ((n < 8) × (at + 15 ≤ length s))
    object-some =
        let e : Typed s at (read_head (pitsurv v) d t (drop at s)) n = given (Ok (Some n)) z in
        let y = read_some (pitsurv v) d t n e.some (drop at s) e.is in
        (y.deep, (y.within, e.within))

    pub object-fields : (r : Result ℕ Refusal) → Checks s (read_fields v (d - 1) (fields_of (pitsurv v) n) (drop (at + 15) s)) r → Checks s (read_object v d t (drop at s)) r
    object-fields r k =
        let e : Typed s at (read_head (pitsurv v) d t (drop at s)) n = given (Ok (Some n)) z in
        same-run s r (object-is (reading (pitsurv v)) (pitsurv v) d t (drop at s))
        (marked-then s n (at + 15) (pos n ∷ []) e.is (inside (reading (pitsurv v)) (pitsurv v) d) r
        (same-run s r (inside-fields (reading (pitsurv v)) (pitsurv v) d n (drop (at + 15) s) object-some.0) k))
