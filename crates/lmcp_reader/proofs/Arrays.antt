-- Every array of plain numbers in the table is of bytes, in either version, by a computed test. Assumes nothing.
use Rattle.wire.proofs.Basics.{◌∙◌, sym, ◌≡◌, ap, refl, ℕ, ◌<◌, List, true, false, Bool, ◌&&◌, length, eqb, ne_eqb, eqb-true}
use Rattle.wire.specs.Choice.{pick}
use Rattle.wire.proofs.Choices.{and_l, and_r}
use Rattle.lmcp.specs.Table.{joined, second, types_of}
use Rattle.lmcp.specs.Packed.{packed_by, packed_of}
use Rattle.lmcp.specs.InsidePacked.{cell, width_of}
use Rattle.lmcp.proofs.Tables.{under}
use Rattle.lmcp.proofs.RowWays.{Here, arg-same, plain_row}

-- an object, one number, or bytes
abbrev array_test : List (List ℕ) → ℕ → Bool
array_test T i = pick (eqb (cell T i 7) 6) true (pick (eqb (cell T i 0) 0 && eqb (cell T i 1) 1) true (eqb (cell T i 7) 0))

array-by : (two : Bool) (i : ℕ) → i < length (joined (types_of two)) → array_test (packed_by two) i ≡ true
unfolding packed_by
array-by true i h = under (array_test (packed_by true)) 20 refl i h
array-by false i h = under (array_test (packed_by false)) 19 refl i h

module _ {v i : ℕ} (H : Here v i) (plain : H.code ≡ 6 → ⊥) where
  -- its values are as wide as its code says
  pub width_is : H.arg ≡ width_of H.code
  width_is = arg-same H ∙ (plain_row H plain).width ∙ ap width_of (sym H.code_is)

  abbrev code : ℕ
  code = cell (packed_of v) i 7

  abbrev single : Bool
  single = eqb (cell (packed_of v) i 0) 0 && eqb (cell (packed_of v) i 1) 1

  -- where it is not one number alone, they are bytes
  module _ (many : H.count ≡ 0 → cell (packed_of v) i 1 ≡ 1 → ⊥) where
    by : (b : Bool) → single ≡ b → pick b true (eqb code 0) ≡ true → eqb code 0 ≡ true
    by true e t =
        let a = eqb (cell (packed_of v) i 0) 0 in
        let b = eqb (cell (packed_of v) i 1) 1 in
        absurd (many (H.count-is ∙ eqb-true _ _ (and_l a b e)) (eqb-true _ _ (and_r a b e)))
    by false e t = t

    pub of-bytes : (H.code ≡ 0) × (H.arg ≡ 1)
    of-bytes =
        let object : eqb code 6 ≡ false = ne_eqb code 6 (λ z. plain (H.code_is ∙ z)) in
        let test = ap (λ (b : Bool). pick b true (pick single true (eqb code 0))) (sym object) ∙ array-by (second v) i H.inside in
        let is : H.code ≡ 0 = H.code_is ∙ eqb-true code 0 (by single refl test) in
        (is, width_is ∙ ap width_of is)
