-- What the reader of an index file answers and leaves. Definitions only.
use Rattle.std.specs.Prelude.{◌≡◌, Result, Ok, Err, not, List, ℕ, ◌*◌, eqb, ltb, length}
use Rattle.wire.specs.Choice.{pick, ◌when◌else◌}
use Rattle.wire.specs.Overlay.{overlay}
use Rattle.refusals.specs.declared.Refusal.{Refusal}
use Rattle.refusals.specs.Numbers.{number_of}
use Rattle.log_index.specs.Words.{words_of}
use Rattle.index_file.specs.File.{covered_in, count_in, is_file, rows_of_file, is_index_file}
use Rattle.index_file.specs.Head.{Head, Of, Refused}

-- the head: covered length and rows; the rows are not looked at
unfoldable pub head_in : List ℕ → Head
head_in f = pick (is_file f) (Of (covered_in f) (count_in f)) (Refused 46)

-- ---- the rows go into lent words, three a row; 13 where there are too few

unfoldable pub rows_answer : List ℕ → ℕ → ℕ
rows_answer f words =
    46 when not (is_index_file f) else
    13 when ltb words (3 * count_in f) else
    0

-- the code's answer: 0, or the number of the refusal
abbrev pub answer_told : Result Unit Refusal → ℕ
answer_told (Ok u) = 0
answer_told (Err r) = number_of r

pub record ReadsRows (f w : List ℕ) (answer : ℕ) (w' : List ℕ) : Type 0 where
  pub gave : answer ≡ rows_answer f (length w)
  pub left : w' ≡ pick (eqb (rows_answer f (length w)) 0) (overlay w 0 (words_of (rows_of_file f))) w
