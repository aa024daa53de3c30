-- The bytes of the table say what the rows are, and their codes, in either version, by computed tests. Assumes nothing.
use Rattle.wire.proofs.Basics.{◌∙◌, sym, ◌≡◌, ap, refl, subst, ℕ, ◌≤◌, ◌<◌, List, true, false, Bool, ◌&&◌, length, get_or, List·getD-eq-default, eqb, leb, eq-eqb, ne_eqb, eqb-true, eqb-false, leb-true}
use Rattle.wire.proofs.Basics.{arith}
use Rattle.wire.specs.Choice.{pick}
use Rattle.wire.proofs.Choices.{never, and_l, and_r}
use Rattle.lmcp.specs.declared.Row.{Row}
use Rattle.lmcp.specs.Table.{signed_kind, object_kind, joined, beginnings, rows_of, starts_of, nothing, second, types_of, pitsurv}
use Rattle.lmcp.specs.Packed.{packed_by, packed_of}
use Rattle.lmcp.specs.InsidePacked.{cell, width_of}
use Rattle.lmcp.proofs.Tables.{under}

module _ (T : List (List ℕ)) (rows : List Row) (i : ℕ) where
  abbrev row : Row
  row = get_or rows i nothing

  abbrev code_at : ℕ
  code_at = cell T i 7

  abbrev same : Bool → Bool → Bool
  same a b = pick a b (pick b false true)

  abbrev value_test : Bool
  value_test = leb code_at 5 && (same (eqb row.kind signed_kind) (leb 3 code_at) && (eqb row.arg (width_of code_at) && pick (eqb row.kind object_kind) false true))

  abbrev object_test : Bool
  object_test = eqb row.kind object_kind && pick (eqb row.count 0) (eqb row.fixed 1) true

  abbrev rest3 : Bool
  rest3 = leb row.count 7 && pick (eqb code_at 6) object_test value_test

  abbrev rest2 : Bool
  rest2 = eqb (cell T i 3) row.arg && rest3

  abbrev rest1 : Bool
  rest1 = eqb (cell T i 1) row.fixed && rest2

  abbrev put_test : Bool
  put_test = eqb (cell T i 0) row.count && rest1

  pub record Put-says : Type 0 where
    pub count-is : cell T i 0 ≡ row.count
    pub fixed-is : cell T i 1 ≡ row.fixed
    pub arg_is : cell T i 3 ≡ row.arg
    pub few : row.count ≤ 7
    pub coded_as : pick (eqb code_at 6) object_test value_test ≡ true

  put-says : put_test ≡ true → Put-says
  put-says e =
      let e1 = and_r (eqb (cell T i 0) row.count) rest1 e in
      let e2 = and_r (eqb (cell T i 1) row.fixed) rest2 e1 in
      let e3 = and_r (eqb (cell T i 3) row.arg) rest3 e2 in
      record {
        count-is = eqb-true _ _ (and_l (eqb (cell T i 0) row.count) rest1 e);
        fixed-is = eqb-true _ _ (and_l (eqb (cell T i 1) row.fixed) rest2 e1);
        arg_is = eqb-true _ _ (and_l (eqb (cell T i 3) row.arg) rest3 e2);
        few = leb-true _ _ (and_l (leb row.count 7) (pick (eqb code_at 6) object_test value_test) e3);
        coded_as = and_r (leb row.count 7) (pick (eqb code_at 6) object_test value_test) e3;
      }

  pub is-object : Put-says → code_at ≡ 6 → (row.kind ≡ object_kind) × (row.count ≡ 0 → row.fixed ≡ 1)
  is-object h c =
      let e : object_test ≡ true = sym (ap (λ (b : Bool). pick b object_test value_test) (eq-eqb code_at 6 c)) ∙ h.coded_as in
      let f = and_r (eqb row.kind object_kind) (pick (eqb row.count 0) (eqb row.fixed 1) true) e in (
        eqb-true row.kind object_kind (and_l (eqb row.kind object_kind) (pick (eqb row.count 0) (eqb row.fixed 1) true) e),
        λ z. eqb-true row.fixed 1 (subst (λ (b : Bool). pick b (eqb row.fixed 1) true ≡ true) (eq-eqb row.count 0 z) f),
      )

  same-is : (a b : Bool) → same a b ≡ true → a ≡ b
  same-is true true e = refl
  same-is true false e = sym e
  same-is false true e = e
  same-is false false e = refl

  not-object : (b : Bool) → pick b false true ≡ true → b ≡ false
  not-object true e = never e refl
  not-object false e = refl

  pub record Is-value : Type 0 where
    pub most : code_at ≤ 5
    pub signs : eqb row.kind signed_kind ≡ leb 3 code_at
    pub width : row.arg ≡ width_of code_at
    pub plain : row.kind ≡ object_kind → ⊥

  pub is-value : Put-says → (code_at ≡ 6 → ⊥) → Is-value
  is-value h c =
      let e : value_test ≡ true = sym (ap (λ (b : Bool). pick b object_test value_test) (ne_eqb code_at 6 c)) ∙ h.coded_as in
      let a3 = pick (eqb row.kind object_kind) false true in
      let a2 = eqb row.arg (width_of code_at) && a3 in
      let a1 = same (eqb row.kind signed_kind) (leb 3 code_at) && a2 in
      let e1 : a1 ≡ true = and_r (leb code_at 5) a1 e in
      let e2 : a2 ≡ true = and_r (same (eqb row.kind signed_kind) (leb 3 code_at)) a2 e1 in
      record {
        most = leb-true code_at 5 (and_l (leb code_at 5) a1 e);
        signs = same-is (eqb row.kind signed_kind) (leb 3 code_at) (and_l (same (eqb row.kind signed_kind) (leb 3 code_at)) a2 e1);
        width = eqb-true row.arg (width_of code_at) (and_l (eqb row.arg (width_of code_at)) a3 e2);
        plain = eqb-false row.kind object_kind (not-object (eqb row.kind object_kind) (and_r (eqb row.arg (width_of code_at)) a3 e2));
      }

puts-by : (two : Bool) (i : ℕ) → i < length (joined (types_of two)) → Put-says (packed_by two) (joined (types_of two)) i
unfolding packed_by
puts-by true i h = put-says (packed_by true) (joined (types_of true)) i (under (put_test (packed_by true) (joined (types_of true))) 20 refl i h)
puts-by false i h = put-says (packed_by false) (joined (types_of false)) i (under (put_test (packed_by false) (joined (types_of false))) 19 refl i h)

pub put_of : (v i : ℕ) → i < length (rows_of (pitsurv v)) → Put-says (packed_of v) (rows_of (pitsurv v)) i
put_of v i h = puts-by (second v) i h

-- ---- the test of a row's field

abbrev field_test : List (List ℕ) → List Row → ℕ → Bool
field_test T rows i =
    eqb (cell T i 0) (get_or rows i nothing).count && (eqb (cell T i 1) (get_or rows i nothing).fixed
    && (eqb (cell T i 2) (get_or rows i nothing).kind && eqb (cell T i 3) (get_or rows i nothing).arg))

-- a row by its bytes
abbrev row_in : List (List ℕ) → ℕ → Row
row_in T i = record { count = cell T i 0; fixed = cell T i 1; kind = cell T i 2; arg = cell T i 3 }

row_path : (f : Row) {a b c d : ℕ} → a ≡ f.count → b ≡ f.fixed → c ≡ f.kind → d ≡ f.arg → record { count = a; fixed = b; kind = c; arg = d } ≡ f
row_path f {a} {b} {c} {d} p q r s =
    ap (λ (n : ℕ). record { count = n; fixed = b; kind = c; arg = d }) p ∙ ap (λ (n : ℕ). record { count = f.count; fixed = n; kind = c; arg = d }) q
    ∙ ap (λ (n : ℕ). record { count = f.count; fixed = f.fixed; kind = n; arg = d }) r
    ∙ ap (λ (n : ℕ). record { count = f.count; fixed = f.fixed; kind = f.kind; arg = n }) s

field-says : (T : List (List ℕ)) (rows : List Row) (i : ℕ) → field_test T rows i ≡ true → row_in T i ≡ get_or rows i nothing
field-says T rows i e =
    let f = get_or rows i nothing in
    let b = eqb (cell T i 1) f.fixed in
    let c = eqb (cell T i 2) f.kind in
    let d = eqb (cell T i 3) f.arg in
    let e1 = and_r (eqb (cell T i 0) f.count) (b && (c && d)) e in
    let e2 = and_r b (c && d) e1 in
    row_path f (eqb-true _ _ (and_l (eqb (cell T i 0) f.count) (b && (c && d)) e)) (eqb-true _ _ (and_l b (c && d) e1)) (eqb-true _ _ (and_l c d e2)) (eqb-true _ _ (and_r c d e2))

rows-by : (two : Bool) (i : ℕ) → i < 20 → row_in (packed_by two) i ≡ get_or (joined (types_of two)) i nothing
unfolding packed_by
rows-by true i h = field-says (packed_by true) (joined (types_of true)) i (under (field_test (packed_by true) (joined (types_of true))) 20 refl i h)
rows-by false i h = field-says (packed_by false) (joined (types_of false)) i (under (field_test (packed_by false) (joined (types_of false))) 20 refl i h)

pub row_is : (v i : ℕ) → i < 20 → {a b c d : ℕ} → a ≡ cell (packed_of v) i 0 → b ≡ cell (packed_of v) i 1 → c ≡ cell (packed_of v) i 2 → d ≡ cell (packed_of v) i 3
    → record { count = a; fixed = b; kind = c; arg = d } ≡ get_or (rows_of (pitsurv v)) i nothing
row_is v i h p q r s = row_path (row_in (packed_of v) i) p q r s ∙ rows-by (second v) i h

pub rows_end : (v i : ℕ) → 20 ≤ i → nothing ≡ get_or (rows_of (pitsurv v)) i nothing
rows_end v i h = by (second v)
  where
    by : (two : Bool) → nothing ≡ get_or (joined (types_of two)) i nothing
    by true = let k : length (joined (types_of true)) ≤ i = omega arith in sym (List·getD-eq-default (joined (types_of true)) nothing k)
    by false = let k : length (joined (types_of false)) ≤ i = omega arith in sym (List·getD-eq-default (joined (types_of false)) nothing k)

-- ---- where a type's rows begin, and where they all end

begin_test : Bool → ℕ → Bool
unfolding packed_by
begin_test two t = eqb (cell (packed_by two) 20 t) (get_or (beginnings 0 (types_of two)) t 0)

begins-by : (two : Bool) (t : ℕ) → t < 8 → cell (packed_by two) 20 t ≡ get_or (beginnings 0 (types_of two)) t 0
unfolding packed_by begin_test
begins-by true t h = eqb-true _ _ (under (begin_test true) 8 refl t h)
begins-by false t h = eqb-true _ _ (under (begin_test false) 8 refl t h)

pub begin-is : (v t : ℕ) → t < 8 → cell (packed_of v) 20 t ≡ get_or (starts_of (pitsurv v)) t 0
begin-is v t h = begins-by (second v) t h

ends_by : (two : Bool) → cell (packed_by two) 21 7 ≡ get_or (beginnings 0 (types_of two)) 8 0
unfolding packed_by
ends_by true = refl
ends_by false = refl

pub end_is : (v : ℕ) → cell (packed_of v) 21 7 ≡ get_or (starts_of (pitsurv v)) 8 0
end_is v = ends_by (second v)

pub starts-end : (v t : ℕ) → 9 ≤ t → 0 ≡ get_or (starts_of (pitsurv v)) t 0
starts-end v t h = sym (List·getD-eq-default (starts_of (pitsurv v)) 0 h)
