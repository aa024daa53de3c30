-- Halving over the file's bytes comes to what it comes to over the rows. Assumes nothing.
use Rattle.wire.proofs.Basics.{◌∙◌, sym, ◌≡◌, ap, refl, ℕ, ◌≤◌, ◌+◌, ◌<◌, suc, zero, List, [], ◌++◌, true, false, Bool, ◌&&◌, inl, inr, some, length, get_or, ltb, ltb-false, ltb-true, arith}
use mathlib.Core.Option as option
use Rattle.wire.specs.Choice.{pick}
use Rattle.wire.specs.Halving.{middle, halve}
use Rattle.wire.proofs.Choices.{either}
use Rattle.wire.proofs.Halves.{turn, done}
use Rattle.log_index.specs.Rows.{Row, row_of, earlier, sorted, is_of, first_of}
use Rattle.log_index.specs.Words as words
use Rattle.log_index.proofs.Sorts.{none, sorted-length}
use Rattle.log_index.proofs.Wordings.{words-all, row_words}
use Rattle.log_index.proofs.Looks.{Rising, found_first}
use Rattle.index_file.specs.File.{file_row, first_rows}
use Rattle.index_file.proofs.Places.{first-length, first-at}
use Rattle.index_look.specs.Look.{file_rank, at_rank, found_in_file}

-- tests that agree at every place
halve-same : (p q : ℕ → Bool) (n : ℕ) → ((i : ℕ) → i < n → p i ≡ q i) → (k low high : ℕ) → high ≤ n → halve k p low high ≡ halve k q low high
unfolding halve
halve-same p q n h zero low high l = refl
halve-same p q n h (suc k) low high l = elim (either (ltb low high)) [
  | inl e ↦
      let b = ltb-true low high e in
      let m : middle low high < n = omega arith in
      elim (either (p (middle low high))) [
        | inl t ↦
            turn p k low high true b t
            ∙ halve-same p q n h k (middle low high + 1) high l
            ∙ sym (turn q k low high true b (sym (h (middle low high) m) ∙ t))
        | inr t ↦
            turn p k low high false b t
            ∙ halve-same p q n h k low (middle low high) (omega arith)
            ∙ sym (turn q k low high false b (sym (h (middle low high) m) ∙ t))
      ]
  | inr e ↦ done p (suc k) low high (ltb-false low high e) ∙ sym (done q (suc k) low high (ltb-false low high e))
]

-- the rows of a list stand in the file
module _ (f : List ℕ) (rs : List Row) (t : List ℕ) (stand : (i : ℕ) → i < length rs → file_row f i ≡ get_or rs i none) where
  abbrev w : List ℕ
  w = words.words_of rs ++ t

  same_row : (i : ℕ) → i < length rs → file_row f i ≡ words.row_at w i
  same_row i h = stand i h ∙ sym (row_words rs t i h)

  same_rank : (r : Row) → file_rank f (length rs) r ≡ words.rank_in w (length rs) r
  unfolding file_rank words.rank_in
  same_rank r =
      halve-same (λ i. earlier (file_row f i) r) (λ i. earlier (words.row_at w i) r) (length rs) (λ i h. ap (λ (x : Row). earlier x r) (same_row i h)) (length rs) 0 (length rs) (omega arith)

  same_at : (s q i : ℕ) → at_rank f (length rs) s q i ≡ words.at_rank w (length rs) s q i
  same_at s q i = elim (either (ltb i (length rs))) [
    | inl e ↦ ap (λ (x : Row). pick (ltb i (length rs) && is_of s q x) (some x.place) option.none) (same_row i (ltb-true i (length rs) e))
    | inr e ↦ rw e refl
  ]

  -- "as `find` over the rows"
  pub found-same : (s q : ℕ) → found_in_file f (length rs) s q ≡ words.found_in w (length rs) s q
  unfolding found_in_file words.found_in
  found-same s q =
      let key = row_of s q 0 in
      let a = words-all rs t key in
      let h : length rs ≡ words.held w (length rs) = omega (arith, a) in
      same_at s q (file_rank f (length rs) key)
      ∙ ap (words.at_rank w (length rs) s q) (same_rank key)
      ∙ ap (λ (n : ℕ). words.at_rank w n s q (words.rank_in w n key)) h

-- in any bytes, a key is found as it is in the words of their rows
pub found_as-rows : (f : List ℕ) (n s q : ℕ) (t : List ℕ) → found_in_file f n s q ≡ words.found_in (words.words_of (first_rows n (file_row f)) ++ t) n s q
found_as-rows f n s q t =
    let rs = first_rows n (file_row f) in
    let e = first-length n (file_row f) in
    ap (λ (k : ℕ). found_in_file f k s q) (sym e)
    ∙ found-same f rs t (λ i h. sym (first-at n (file_row f) i (let b : i < n = omega (arith, e, h) in b))) s q
    ∙ ap (λ (k : ℕ). words.found_in (words.words_of rs ++ t) k s q) e

-- in the file of sorted rows whose places rise, it is the first row of the key
pub found_in-sorted : (f : List ℕ) (rs : List Row) → Rising rs → ((i : ℕ) → i < length (sorted rs) → file_row f i ≡ get_or (sorted rs) i none) → (s q : ℕ)
    → found_in_file f (length (sorted rs)) s q ≡ first_of s q rs
found_in-sorted f rs a stand s q =
    found-same f (sorted rs) [] stand s q
    ∙ ap (λ (k : ℕ). words.found_in (words.words_of (sorted rs) ++ []) k s q) (sorted-length rs)
    ∙ found_first s q rs [] a
