-- The bytes of the table say of each row what the rows are, in either version, by two computed tests. Assumes nothing.
use Rattle.wire.proofs.Basics.{◌∙◌, sym, ◌≡◌, ap, refl, subst, ℕ, ◌≤◌, ◌+◌, ◌<◌, suc, List, [], ◌∷◌, true, false, Bool, ◌&&◌, ◌||◌, length, get_or, slice, eqb, ltb, leb, eq-eqb, ne_eqb, lt-ltb}
use Rattle.wire.proofs.Basics.{eqb-true, le-leb, leb-true, arith}
use lib.Seq.{slice-cons, slice_empty}
use Rattle.wire.specs.Choice.{pick}
use Rattle.wire.proofs.Choices.{and_l, and_r, and-of}
use Rattle.lmcp.specs.declared.Row.{Row}
use Rattle.lmcp.specs.Table.{char_kind, object_kind, joined, beginnings, rows_of, starts_of, fields_of, nothing, second, types_of, pitsurv}
use Rattle.lmcp.proofs.Tables.{upto, under, rows-of}
use Rattle.lmcp.specs.Packed.{plain, single, run_bytes, run_bool, packed_by, packed_of}
use Rattle.lmcp.specs.InsidePacked.{cell}

-- ---- rows that are one run

abbrev pub none : List Row → Bool
none [] = true
none (f ∷ fs) = false

abbrev pub is_run : List Row → Bool
is_run [] = true
is_run (f ∷ fs) = pick (plain f) (is_run fs) (single f && none fs)

-- ---- the test of a row

module _ (T : List (List ℕ)) (rows : List Row) (i : ℕ) where
  abbrev row : Row
  row = get_or rows i nothing

  abbrev step : ℕ
  step = cell T i 5

  abbrev run : List Row
  run = slice i (i + step) rows

  abbrev array_test : Bool
  array_test = leb row.count 7 && (eqb row.kind object_kind || (eqb row.kind char_kind && eqb row.arg 1))

  abbrev one_test : Bool
  one_test = pick (eqb row.count 0) (eqb row.kind object_kind && eqb row.fixed 1) array_test

  abbrev run_test : Bool
  run_test = is_run run && (eqb (cell T i 4) (run_bytes run) && eqb (cell T i 6) (run_bool run))

  abbrev step_test : Bool
  step_test = pick (eqb (cell T i 4) 0) (eqb step 1 && one_test) run_test

  abbrev row_test : Bool
  row_test = eqb (cell T i 0) row.count && (eqb (cell T i 2) row.kind && (eqb (cell T i 3) row.arg && (leb 1 step && (leb (i + step) (length rows) && step_test))))

  pub record Row-says : Type 0 where
    pub count-is : cell T i 0 ≡ row.count
    pub kind-is : cell T i 2 ≡ row.kind
    pub arg_is : cell T i 3 ≡ row.arg
    pub least : 1 ≤ step
    pub inside : i + step ≤ length rows
    pub stepped : step_test ≡ true

  row-says : row_test ≡ true → Row-says
  row-says e =
      let t5 = leb (i + step) (length rows) && step_test in
      let t4 = leb 1 step && t5 in
      let t3 = eqb (cell T i 3) row.arg && t4 in
      let t2 = eqb (cell T i 2) row.kind && t3 in
      let e2 : t2 ≡ true = and_r (eqb (cell T i 0) row.count) t2 e in
      let e3 : t3 ≡ true = and_r (eqb (cell T i 2) row.kind) t3 e2 in
      let e4 : t4 ≡ true = and_r (eqb (cell T i 3) row.arg) t4 e3 in
      let e5 : t5 ≡ true = and_r (leb 1 step) t5 e4 in
      record {
        count-is = eqb-true (cell T i 0) row.count (and_l (eqb (cell T i 0) row.count) t2 e);
        kind-is = eqb-true (cell T i 2) row.kind (and_l (eqb (cell T i 2) row.kind) t3 e2);
        arg_is = eqb-true (cell T i 3) row.arg (and_l (eqb (cell T i 3) row.arg) t4 e3);
        least = leb-true 1 step (and_l (leb 1 step) t5 e4);
        inside = leb-true (i + step) (length rows) (and_l (leb (i + step) (length rows)) step_test e5);
        stepped = and_r (leb (i + step) (length rows)) step_test e5;
      }

  -- a run
  pub record Run-says : Type 0 where
    pub is-run : is_run run ≡ true
    pub bytes-are : cell T i 4 ≡ run_bytes run
    pub bool_is : cell T i 6 ≡ run_bool run

  pub run-says : Row-says → (cell T i 4 ≡ 0 → ⊥) → Run-says
  run-says h z =
      let e : run_test ≡ true = sym (ap (λ (b : Bool). pick b (eqb step 1 && one_test) run_test) (ne_eqb (cell T i 4) 0 z)) ∙ h.stepped in
      let u = eqb (cell T i 4) (run_bytes run) in
      let v = eqb (cell T i 6) (run_bool run) in
      record {
        is-run = and_l (is_run run) (u && v) e;
        bytes-are = eqb-true (cell T i 4) (run_bytes run) (and_l u v (and_r (is_run run) (u && v) e));
        bool_is = eqb-true (cell T i 6) (run_bool run) (and_r u v (and_r (is_run run) (u && v) e));
      }

  -- one row
  module _ (h : Row-says) (z : cell T i 4 ≡ 0) where
    one-test : (eqb step 1 && one_test) ≡ true
    one-test = sym (ap (λ (b : Bool). pick b (eqb step 1 && one_test) run_test) (eq-eqb (cell T i 4) 0 z)) ∙ h.stepped

    pub one-step : step ≡ 1
    one-step = eqb-true step 1 (and_l (eqb step 1) one_test one-test)

    pub run-is-row : run ≡ row ∷ []
    run-is-row =
        let k : i + step ≡ suc i = omega (arith, one-step) in
        let l : suc i ≤ length rows = omega (arith, h.inside, k) in
        ap (λ (e : ℕ). slice i e rows) k ∙ slice-cons i (suc i) rows nothing (omega arith) l ∙ ap (λ (r : List Row). row ∷ r) (slice_empty (suc i) rows)

    pub object-row : row.count ≡ 0 → (row.kind ≡ object_kind) × (row.fixed ≡ 1)
    object-row c =
        let e : (eqb row.kind object_kind && eqb row.fixed 1) ≡ true = sym (ap (λ (b : Bool). pick b (eqb row.kind object_kind && eqb row.fixed 1) array_test) (eq-eqb row.count 0 c)) ∙ and_r (eqb step 1) one_test one-test in
        (eqb-true row.kind object_kind (and_l (eqb row.kind object_kind) (eqb row.fixed 1) e), eqb-true row.fixed 1 (and_r (eqb row.kind object_kind) (eqb row.fixed 1) e))

    module _ (c : row.count ≡ 0 → ⊥) where
      array-test : array_test ≡ true
      array-test = sym (ap (λ (b : Bool). pick b (eqb row.kind object_kind && eqb row.fixed 1) array_test) (ne_eqb row.count 0 c)) ∙ and_r (eqb step 1) one_test one-test

      elements : (eqb row.kind object_kind || (eqb row.kind char_kind && eqb row.arg 1)) ≡ true
      elements = and_r (leb row.count 7) (eqb row.kind object_kind || (eqb row.kind char_kind && eqb row.arg 1)) array-test

      pub count_fits : row.count ≤ 7
      count_fits = leb-true row.count 7 (and_l (leb row.count 7) (eqb row.kind object_kind || (eqb row.kind char_kind && eqb row.arg 1)) array-test)

      chars : (row.kind ≡ object_kind → ⊥) → (eqb row.kind char_kind && eqb row.arg 1) ≡ true
      chars n = subst (λ (b : Bool). (b || (eqb row.kind char_kind && eqb row.arg 1)) ≡ true) (ne_eqb row.kind object_kind n) elements

      pub char-row : row.kind ≡ char_kind → row.arg ≡ 1
      char-row k = eqb-true row.arg 1 (and_r (eqb row.kind char_kind) (eqb row.arg 1) (chars (λ q. (let y : ⊥ = omega (arith, q, k) in y))))

      pub objects-row : (row.kind ≡ char_kind → ⊥) → row.kind ≡ object_kind
      objects-row n = by (eqb row.kind object_kind) refl
        where
          by : (b : Bool) → eqb row.kind object_kind ≡ b → row.kind ≡ object_kind
          by true e = eqb-true row.kind object_kind e
          by false e = absurd (n (eqb-true row.kind char_kind (and_l (eqb row.kind char_kind) (eqb row.arg 1) (subst (λ (b : Bool). (b || (eqb row.kind char_kind && eqb row.arg 1)) ≡ true) e elements))))

rows-by : (two : Bool) (i : ℕ) → i < length (joined (types_of two)) → Row-says (packed_by two) (joined (types_of two)) i
unfolding packed_by
rows-by true i h = row-says (packed_by true) (joined (types_of true)) i (under (row_test (packed_by true) (joined (types_of true))) 20 refl i h)
rows-by false i h = row-says (packed_by false) (joined (types_of false)) i (under (row_test (packed_by false) (joined (types_of false))) 19 refl i h)

pub row_of : (v i : ℕ) → i < length (rows_of (pitsurv v)) → Row-says (packed_of v) (rows_of (pitsurv v)) i
row_of v i h = rows-by (second v) i h

-- ---- the test of a type: where its rows begin and end, and that no step passes its end

abbrev begin : Bool → ℕ → ℕ
begin two t = get_or (beginnings 0 (types_of two)) t 0

abbrev within : Bool → ℕ → ℕ → Bool
within two t i = pick (leb (begin two t) i && ltb i (begin two (t + 1))) (leb (i + cell (packed_by two) i 5) (begin two (t + 1))) true

abbrev type_test : Bool → ℕ → Bool
type_test two t = eqb (cell (packed_by two) 20 t) (begin two t) && (eqb (cell (packed_by two) 21 t) (begin two (t + 1)) && upto (within two t) 20)

pub record Type-says (two : Bool) (t : ℕ) : Type 0 where
  pub starts : cell (packed_by two) 20 t ≡ begin two t
  pub stops : cell (packed_by two) 21 t ≡ begin two (t + 1)
  pub inside : (i : ℕ) → i < 20 → begin two t ≤ i → i < begin two (t + 1) → i + cell (packed_by two) i 5 ≤ begin two (t + 1)

types-by : (two : Bool) (t : ℕ) → type_test two t ≡ true → Type-says two t
types-by two t e =
    let b = eqb (cell (packed_by two) 21 t) (begin two (t + 1)) in
    let u = upto (within two t) 20 in
    let f = and_r (eqb (cell (packed_by two) 20 t) (begin two t)) (b && u) e in
    record {
      starts = eqb-true (cell (packed_by two) 20 t) (begin two t) (and_l (eqb (cell (packed_by two) 20 t) (begin two t)) (b && u) e);
      stops = eqb-true (cell (packed_by two) 21 t) (begin two (t + 1)) (and_l b u f);
      inside = λ i h l m.
          let q = under (within two t) 20 (and_r b u f) i h in
          let o : (leb (begin two t) i && ltb i (begin two (t + 1))) ≡ true = and-of _ _ (le-leb _ _ l) (lt-ltb _ _ m) in
          let n = cell (packed_by two) i 5 in
          leb-true (i + n) (begin two (t + 1)) (subst (λ (c : Bool). pick c (leb (i + n) (begin two (t + 1))) true ≡ true) o q);
    }

types-all : (two : Bool) (t : ℕ) → t < 8 → Type-says two t
unfolding packed_by
types-all true t h = types-by true t (under (type_test true) 8 refl t h)
types-all false t h = types-by false t (under (type_test false) 8 refl t h)

pub type-of : (v t : ℕ) → t < 8 → Type-says (second v) t
type-of v t h = types-all (second v) t h

-- ---- where the rows of a type begin and end

few-by : (two : Bool) → length (joined (types_of two)) ≤ 20
few-by true = omega arith
few-by false = omega arith

pub few-rows : (v : ℕ) → length (rows_of (pitsurv v)) ≤ 20
few-rows v = few-by (second v)

pub record Bounds (v t i e : ℕ) : Type 0 where
  pub rise : i ≤ e
  pub inside : e ≤ length (rows_of (pitsurv v))
  pub are : fields_of (pitsurv v) t ≡ slice i e (rows_of (pitsurv v))
  pub first : i ≡ get_or (starts_of (pitsurv v)) t 0
  pub last : e ≡ get_or (starts_of (pitsurv v)) (t + 1) 0

pub bounds : (v t i e : ℕ) → t < 8 → (tab : List (List ℕ)) → tab ≡ packed_of v → i ≡ cell tab 20 t → e ≡ cell tab 21 t → Bounds v t i e
bounds v t i e h tab q is es =
    let y = type-of v t h in
    let a : i ≡ get_or (starts_of (pitsurv v)) t 0 = is ∙ ap (λ (l : List (List ℕ)). cell l 20 t) q ∙ y.starts in
    let b : e ≡ get_or (starts_of (pitsurv v)) (t + 1) 0 = es ∙ ap (λ (l : List (List ℕ)). cell l 21 t) q ∙ y.stops in
    let r = rows-of (pitsurv v) t i e h a b in
    record { rise = r.rise; inside = r.inside; are = r.are; first = a; last = b }
