-- A row of the table by three of its bytes: what a walk, in either direction, takes of it. Assumes nothing.
use Rattle.wire.proofs.Basics.{◌∙◌, sym, ◌≡◌, ap, ℕ, ◌≤◌, ◌<◌, List, length, get_or, arith}
use Rattle.lmcp.specs.declared.Row.{Row}
use Rattle.lmcp.specs.Run.{Run, refused, bad, after, repeat}
use Rattle.lmcp.specs.Table.{Table, rows_of, nothing, pitsurv}
use Rattle.lmcp.specs.Walk.{Way, item, field, object}
use Rattle.lmcp.specs.Packed.{packed_of}
use Rattle.lmcp.specs.InsidePacked.{cell}
use Rattle.lmcp.proofs.Codes.{Put-says, put_of, is-object, Is-value, is-value}
use Rattle.lmcp.proofs.WalkPlaces.{item-object, item-value, field_fixed, field-counted, marked-stops}
use Rattle.lmcp.proofs.RunParts.{then-nil, repeat-same, after_same}

-- row i of a version, and three of its bytes
pub record Here (v i : ℕ) : Type 0 where
  pub inside : i < length (rows_of (pitsurv v))
  pub code : ℕ
  pub count : ℕ
  pub arg : ℕ
  pub code_is : code ≡ cell (packed_of v) i 7
  pub count-is : count ≡ cell (packed_of v) i 0
  pub arg_is : arg ≡ cell (packed_of v) i 3

module _ {v i : ℕ} (H : Here v i) where
  abbrev f : Row
  f = get_or (rows_of (pitsurv v)) i nothing

  pub says : Put-says (packed_of v) (rows_of (pitsurv v)) i
  says = put_of v i H.inside

  pub count_same : H.count ≡ f.count
  count_same = H.count-is ∙ says.count-is

  pub arg-same : H.arg ≡ f.arg
  arg-same = H.arg_is ∙ says.arg_is

  pub few_bytes : H.count ≤ 7
  few_bytes = omega (arith, says.few, count_same)

  pub plain_row : (H.code ≡ 6 → ⊥) → Is-value (packed_of v) (rows_of (pitsurv v)) i
  plain_row k = is-value (packed_of v) (rows_of (pitsurv v)) i says (λ z. k (H.code_is ∙ z))

  module _ {A B : Type 0} (way : Table → Way A B) (d : ℕ) where
    abbrev W : Way A B
    W = way (pitsurv v)

    abbrev obj : ℕ → List A → Run A B
    obj = object W (pitsurv v) d

    object-item : H.code ≡ 6 → (l : List A) → item W obj f l ≡ obj H.arg l
    object-item k l = item-object W obj f l (is-object (packed_of v) (rows_of (pitsurv v)) i says (sym H.code_is ∙ k)).0 ∙ ap (λ (t : ℕ). obj t l) (sym arg-same)

    value-item : (H.code ≡ 6 → ⊥) → (l : List A) → item W obj f l ≡ W.value f.kind H.arg l
    value-item k l = item-value W obj f l (plain_row k).plain ∙ ap (λ (w : ℕ). W.value f.kind w l) (sym arg-same)

    -- no count
    module _ (z : H.count ≡ 0) where
      fixed : (l : List A) → field W obj f l ≡ repeat f.fixed (item W obj f) l
      fixed l = field_fixed W obj f l (sym count_same ∙ z)

      pub one-object : H.code ≡ 6 → (l : List A) → field W obj f l ≡ obj H.arg l
      unfolding repeat
      one-object k l =
          let o = is-object (packed_of v) (rows_of (pitsurv v)) i says (sym H.code_is ∙ k) in
          fixed l ∙ ap (λ (m : ℕ). repeat m (item W obj f) l) (o.1 (sym count_same ∙ z)) ∙ then-nil (item W obj f l) ∙ object-item k l

      module _ (k : H.code ≡ 6 → ⊥) (n : ℕ) (ns : n ≡ cell (packed_of v) i 1) where
        pub many-values : (l : List A) → field W obj f l ≡ repeat n (W.value f.kind H.arg) l
        many-values l =
            fixed l ∙ ap (λ (m : ℕ). repeat m (item W obj f) l) (sym (ns ∙ says.fixed-is))
            ∙ repeat-same (item W obj f) (W.value f.kind H.arg) (value-item k) n l

        pub one_value : n ≡ 1 → (l : List A) → field W obj f l ≡ W.value f.kind H.arg l
        unfolding repeat
        one_value e l = many-values l ∙ ap (λ (m : ℕ). repeat m (W.value f.kind H.arg) l) e ∙ then-nil (W.value f.kind H.arg l)

    -- an array
    module _ (z : H.count ≡ 0 → ⊥) where
      counted : (l : List A) → field W obj f l ≡ after (W.count H.count l) (λ n. repeat n (item W obj f))
      counted l = field-counted W obj f l (λ y. z (count_same ∙ y)) ∙ ap (λ (w : ℕ). after (W.count w l) (λ n. repeat n (item W obj f))) (sym count_same)

      pub many_objects : H.code ≡ 6 → (l : List A) → field W obj f l ≡ after (W.count H.count l) (λ n. repeat n (obj H.arg))
      many_objects k l = counted l ∙ after_same (W.count H.count l) (λ n. repeat n (item W obj f)) (λ n. repeat n (obj H.arg)) (λ n. repeat-same (item W obj f) (obj H.arg) (object-item k) n)

      pub chars : (H.code ≡ 6 → ⊥) → (l : List A) → field W obj f l ≡ after (W.count H.count l) (λ n. repeat n (W.value f.kind H.arg))
      chars k l =
          counted l
          ∙ after_same (W.count H.count l) (λ n. repeat n (item W obj f)) (λ n. repeat n (W.value f.kind H.arg)) (λ n. repeat-same (item W obj f) (W.value f.kind H.arg) (value-item k) n)

      pub stops : (n : ℕ) (l : List A) → W.count H.count l ≡ bad n → field W obj f l ≡ refused n
      stops n l e = counted l ∙ marked-stops n (λ n. repeat n (item W obj f)) e
