-- The answers of the reader, and no second one. Assumes nothing.
use Rattle.wire.proofs.Basics.{◌∙◌, sym, ◌≡◌, ap, refl, subst, ℕ, ◌≤◌, ◌<◌, ◌*◌, List, true, false, Bool, ◌&&◌, length, ltb, le-ltb, lt-ltb, arith}
use Rattle.wire.specs.Overlay.{overlay}
use Rattle.wire.proofs.Once.{one_answer}
use Rattle.log_index.specs.Rows.{Row}
use Rattle.log_index.specs.Words.{row_said, words_of}
use Rattle.index_file.specs.File.{covered_in, count_in, is_file, file_row, first_rows, in_order_lem}
use Rattle.index_file.specs.Files.{head_in, rows_answer, ReadsRows}
use Rattle.log_index.specs.declared.Row as coded
use Rattle.index_file.specs.Head.{Of, Refused}

-- ---- the head

pub head-of : (f : List ℕ) → is_file f ≡ true → head_in f ≡ Of (covered_in f) (count_in f)
unfolding head_in
head-of f e = rw e

pub head-refused : (f : List ℕ) → is_file f ≡ false → head_in f ≡ Refused 46
unfolding head_in
head-refused f e = rw e

-- what the head told
pub record HeadTold (f : List ℕ) (covered n : ℕ) : Type 0 where
  pub is : is_file f ≡ true
  pub covers : covered ≡ covered_in f
  pub count : n ≡ count_in f

pub told_of_lem : (f : List ℕ) (covered n : ℕ) → head_in f ≡ Of covered n → HeadTold f covered n
told_of_lem f covered n e = go (is_file f) refl
  where
    go : (b : Bool) → is_file f ≡ b → HeadTold f covered n
    go true p = let q : Of (covered_in f) (count_in f) ≡ Of covered n = sym (head-of f p) ∙ e in record { is = p; covers = cc; count = cc }
    go false p =
        let q : Refused 46 ≡ Of covered n = sym (head-refused f p) ∙ e in
        absurd (let z : ◌≡◌ {A = ℕ} 0 1 = cc in omega arith)

pub record HeadStops (f : List ℕ) (k : ℕ) : Type 0 where
  pub isnt : is_file f ≡ false
  pub number : k ≡ 46

pub told-refused : (f : List ℕ) (k : ℕ) → head_in f ≡ Refused k → HeadStops f k
told-refused f k e = go (is_file f) refl
  where
    go : (b : Bool) → is_file f ≡ b → HeadStops f k
    go false p = let q : Refused 46 ≡ Refused k = sym (head-refused f p) ∙ e in record { isnt = p; number = cc }
    go true p =
        let q : Of (covered_in f) (count_in f) ≡ Refused k = sym (head-of f p) ∙ e in
        absurd (let z : ◌≡◌ {A = ℕ} 0 1 = cc in omega arith)

-- ---- the rows

module _ (f w : List ℕ) where
  reads_46 : (is_file f && in_order_lem (file_row f) (count_in f)) ≡ false → ReadsRows f w 46 w
  unfolding rows_answer
  reads_46 e = record { gave = rw e; left = rw e }

  pub reads_other : (k : ℕ) → head_in f ≡ Refused k → ReadsRows f w k w
  reads_other k e = let t = told-refused f k e in subst (λ (n : ℕ). ReadsRows f w n w) (sym t.number) (reads_46 (rw t.isnt))

  module _ (covered n : ℕ) (head : head_in f ≡ Of covered n) where
    abbrev told : HeadTold f covered n
    told = told_of_lem f covered n head

    pub reads_unsorted : in_order_lem (file_row f) n ≡ false → ReadsRows f w 46 w
    reads_unsorted e =
        reads_46 (ap (λ (b : Bool). b && in_order_lem (file_row f) (count_in f)) told.is ∙ ap (in_order_lem (file_row f)) (sym told.count) ∙ e)

    good : in_order_lem (file_row f) n ≡ true → (is_file f && in_order_lem (file_row f) (count_in f)) ≡ true
    good e = ap (λ (b : Bool). b && in_order_lem (file_row f) (count_in f)) told.is ∙ ap (in_order_lem (file_row f)) (sym told.count) ∙ e

    pub reads_short : in_order_lem (file_row f) n ≡ true → length w < 3 * n → ReadsRows f w 13 w
    unfolding rows_answer
    reads_short e h =
        let t : ltb (length w) (3 * count_in f) ≡ true = lt-ltb (length w) (3 * count_in f) (let c = told.count in omega (arith, c, h)) in
        record { gave = rw (good e, t); left = rw (good e, t) }

    pub reads_all_lem : in_order_lem (file_row f) n ≡ true → 3 * n ≤ length w → (w' : List ℕ) → w' ≡ overlay w 0 (words_of (first_rows n (file_row f))) → ReadsRows f w 0 w'
    unfolding rows_answer
    reads_all_lem e h w' g =
        let t : ltb (length w) (3 * count_in f) ≡ false = le-ltb (length w) (3 * count_in f) (let c = told.count in omega (arith, c, h)) in
        record { gave = rw (good e, t); left = rw (good e, t) (g ∙ ap (λ (k : ℕ). overlay w 0 (words_of (first_rows k (file_row f)))) told.count) }

-- ---- no second answer

-- the row that a contract tells
pub row-once : (r s : coded.Row) (x : Row) → row_said r ≡ x → row_said s ≡ x → r ≡ s
row-once r s x p q = let e = p ∙ sym q in λ j. record { sender = (e j).sender; sequence = (e j).sequence; place = (e j).place }

pub reads-once : (f w : List ℕ) (x y : ℕ) (a b : List ℕ) → ReadsRows f w x a → ReadsRows f w y b → (x ≡ y) × (a ≡ b)
reads-once f w x y a b p q = (one_answer x y p.gave q.gave, one_answer a b p.left q.left)
