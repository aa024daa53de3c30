-- Covered length and rows, and the file, determine each other: what is written is read, and what is read is written as it stood. Assumes nothing.
use Rattle.wire.proofs.Basics.{◌∙◌, sym, ◌≡◌, ap, refl, ℕ, ◌≤◌, ◌+◌, ◌<◌, ◌-◌, suc, zero, ◌*◌, ◌^◌, ◌/◌, List, [], ◌∷◌, ◌++◌, append_assoc, true, length, drop, get_or, take, length-append, length-drop}
use Rattle.wire.proofs.Basics.{take-append-drop, drop-drop, take_all, drop_at, drop-cons, take-add, eqb, eq-eqb, lt-ltb, eqb-true, arith}
use Rattle.wire.specs.Bytes.{be, bytes, Bytes}
use Rattle.wire.proofs.Choices.{and_l, and_r}
use Rattle.wire.proofs.Numbers.{length-bytes, be-bytes, be-lt, bytes-be, drop-bytes}
use Rattle.log_index.specs.Rows.{Row}
use Rattle.log_index.proofs.Sorts.{none, All, all-at}
use Rattle.index_file.specs.File.{Fits, row_bytes, rows_bytes, head_of, file_of, covered_in, count_in, is_file, row_in, file_row, first_rows, rows_of_file}
use Rattle.index_file.proofs.Places.{first-length, first-list}
use Rattle.index_file.proofs.RowBytes.{row_back, row-again, rows-length, rows_append, rows-one, rows_drop}

-- a file of so many rows
pub file-size : (f : List ℕ) → is_file f ≡ true → length f ≡ 17 + 20 * count_in f
unfolding is_file
file-size f e = eqb-true (length f) (17 + 20 * count_in f) (and_r (eqb (get_or f 0 0) 1) (eqb (length f) (17 + 20 * count_in f)) e)

pub file-edition : (f : List ℕ) → is_file f ≡ true → get_or f 0 0 ≡ 1
unfolding is_file
file-edition f e = eqb-true (get_or f 0 0) 1 (and_l (eqb (get_or f 0 0) 1) (eqb (length f) (17 + 20 * count_in f)) e)

-- a row that there are bytes for
pub row_inside : (f : List ℕ) (i : ℕ) → i < (length f - 17) / 20 → file_row f i ≡ row_in (drop (17 + 20 * i) f)
unfolding file_row
row_inside f i h = rw (lt-ltb i ((length f - 17) / 20) h) refl

-- the first of some rows
front-row : (r : Row) (xs : List Row) → Fits r → row_in (rows_bytes (r ∷ xs)) ≡ r
unfolding rows_bytes
front-row r xs f = row_back r (rows_bytes xs) f

-- ---- read after write

module _ (covered : ℕ) (rs : List Row) where
  abbrev c : List ℕ
  c = bytes 8 covered

  abbrev n : List ℕ
  n = bytes 8 (length rs)

  pub head-size : length (head_of covered (length rs)) ≡ 17
  head-size = let e = length-append c n in let f = length-bytes 8 covered in let g = length-bytes 8 (length rs) in omega (arith, e, f, g)

  pub file-length : length (file_of covered rs) ≡ 17 + 20 * length rs
  unfolding file_of
  file-length =
      length-append (head_of covered (length rs)) (rows_bytes rs) ∙ (let e = head-size in let f = rows-length rs in omega (arith, e, f))

  behind-byte : drop 1 (file_of covered rs) ≡ c ++ (n ++ rows_bytes rs)
  unfolding file_of
  behind-byte = append_assoc c n (rows_bytes rs)

  behind-covered : drop 9 (file_of covered rs) ≡ n ++ rows_bytes rs
  behind-covered =
      sym (drop-drop 8 1 (file_of covered rs)) ∙ ap (drop 8) behind-byte ∙ drop_at c (n ++ rows_bytes rs) 8 (length-bytes 8 covered)

  behind-head : drop 17 (file_of covered rs) ≡ rows_bytes rs
  unfolding file_of
  behind-head = drop_at (head_of covered (length rs)) (rows_bytes rs) 17 head-size

  module _ (small : covered < 2 ^ 64) (few : length rs < 2 ^ 64) (fit : All Fits rs) where
    pub covered-back : covered_in (file_of covered rs) ≡ covered
    covered-back = ap (be 8) behind-byte ∙ be-bytes 8 covered small (n ++ rows_bytes rs)

    pub count-back : count_in (file_of covered rs) ≡ length rs
    count-back = ap (be 8) behind-covered ∙ be-bytes 8 (length rs) few (rows_bytes rs)

    pub is-file : is_file (file_of covered rs) ≡ true
    unfolding is_file file_of
    is-file = eq-eqb (length (file_of covered rs)) (17 + 20 * count_in (file_of covered rs)) (file-length ∙ ap (λ (k : ℕ). 17 + 20 * k) (sym count-back))

    pub row-at-back : (i : ℕ) → i < length rs → file_row (file_of covered rs) i ≡ get_or rs i none
    row-at-back i h =
        let f = file_of covered rs in
        let l : i < (length f - 17) / 20 = let e = file-length in omega (arith, e) in
        let r = get_or rs i none in
        row_inside f i l
        ∙ ap row_in (sym (drop-drop (20 * i) 17 f))
        ∙ ap (λ (b : List ℕ). row_in (drop (20 * i) b)) behind-head
        ∙ ap row_in (rows_drop rs i (omega arith) ∙ ap rows_bytes (drop-cons rs i none h))
        ∙ front-row r (drop (suc i) rs) (all-at Fits rs fit i h)

    pub rows_back : rows_of_file (file_of covered rs) ≡ rs
    rows_back =
        ap (λ (k : ℕ). first_rows k (file_row (file_of covered rs))) count-back ∙ first-list rs (file_row (file_of covered rs)) row-at-back

-- ---- write after read

module _ (f : List ℕ) (all : Bytes f) where
  rows-again : (n : ℕ) → 17 + 20 * n ≤ length f → rows_bytes (first_rows n (file_row f)) ≡ take (20 * n) (drop 17 f)
  unfolding first_rows rows_bytes
  rows-again zero h = refl
  rows-again (suc n) h =
      let e : 20 * suc n ≡ 20 * n + 20 = omega arith in
      let l : 20 ≤ length (drop (17 + 20 * n) f) = rw length-drop (omega arith) in
      let g : n < (length f - 17) / 20 = omega arith in
      rows_append (first_rows n (file_row f)) (file_row f n ∷ [])
      ∙ (λ j. rows-again n (omega arith) j ++ rows-one (file_row f n) j)
      ∙ (λ j. take (20 * n) (drop 17 f) ++ row_bytes (row_inside f n g j))
      ∙ (λ j. take (20 * n) (drop 17 f) ++ row-again (drop (17 + 20 * n) f) (drop-bytes f (17 + 20 * n) all) l j)
      ∙ (λ j. take (20 * n) (drop 17 f) ++ take 20 (sym (drop-drop (20 * n) 17 f) j))
      ∙ sym (take-add (20 * n) 20 (drop 17 f))
      ∙ ap (λ (k : ℕ). take k (drop 17 f)) (sym e)

  module _ (is : is_file f ≡ true) where
    size : length f ≡ 17 + 20 * count_in f
    size = file-size f is

    edition : take 1 f ≡ 1 ∷ []
    edition = first f (file-edition f is) (let e = size in omega (arith, e))
      where
        first : (b : List ℕ) → get_or b 0 0 ≡ 1 → 17 ≤ length b → take 1 b ≡ 1 ∷ []
        first [] e l = absurd (let z : ⊥ = omega arith in z)
        first (x ∷ b) e l = ap (λ (y : ℕ). y ∷ []) e

    pub file-again : file_of (covered_in f) (rows_of_file f) ≡ f
    unfolding file_of
    file-again =
        let k = first-length (count_in f) (file_row f) in
        let l : 8 ≤ length (drop 1 f) = rw length-drop (let e = size in omega (arith, e)) in
        let m : 8 ≤ length (drop 9 f) = rw length-drop (let e = size in omega (arith, e)) in
        let t : take (20 * count_in f) (drop 17 f) ≡ drop 17 f = take_all (20 * count_in f) (drop 17 f) (rw length-drop (let e = size in omega (arith, e))) in
        (λ j. ((1 ∷ []) ++ (bytes 8 (covered_in f) ++ bytes 8 (k j))) ++ rows-again (count_in f) (let e = size in omega (arith, e)) j)
        ∙ (λ j. (sym edition j ++ (bytes-be 8 (drop 1 f) (drop-bytes f 1 all) l j ++ bytes-be 8 (drop 9 f) (drop-bytes f 9 all) m j)) ++ t j)
        ∙ (λ j. (take 1 f ++ (take 8 (drop 1 f) ++ take 8 (sym (drop-drop 8 1 f) j))) ++ drop 17 f)
        ∙ (λ j. (take 1 f ++ sym (take-add 8 8 (drop 1 f)) j) ++ drop 17 f)
        ∙ (λ j. sym (take-add 1 16 f) j ++ drop 17 f)
        ∙ take-append-drop 17 f

  -- what is read fits a file
  pub covered-small : covered_in f < 2 ^ 64
  covered-small = be-lt 8 (drop 1 f) (drop-bytes f 1 all)

  pub count-few : count_in f < 2 ^ 64
  count-few = be-lt 8 (drop 9 f) (drop-bytes f 9 all)
