-- What the C host is told of a log's index in one number, and of a key in two at the start of a lent list. Definitions only.
use Rattle.std.specs.Prelude.{◌≡◌, List, [], ◌∷◌, ℕ, ◌+◌, ◌%◌, ◌^◌, ◌<◌, ltb, length}
use Rattle.std.proofs.Math.Option.{Option, none, some}
use Rattle.wire.specs.Choice.{pick}
use Rattle.wire.specs.Overlay.{overlay}
use Rattle.log_index.specs.Limits.{large_batch}
use Rattle.log_index.specs.Index.{rows_in, Answer, holds, refuses, answer_in, answer_of}
use Rattle.log_index.specs.Words.{found_in}
use Rattle.index_builder.specs.Adds.{extended_in, index_words, rows_on}

-- ---- the index: 2^32 and how many rows it has, or the refusal number alone

abbrev pub index_code : Answer → ℕ
index_code (holds n) = 2 ^ 32 + n
index_code (refuses k) = k

-- QM_INDEX_ROWS: the answer as a number of 32 bits
abbrev pub index_rows : ℕ → ℕ
index_rows answer = answer % 2 ^ 32

-- so few rows that the macro gives them back
abbrev pub Few : Answer → Type 0
Few (holds n) = n < 2 ^ 32
Few (refuses k) = Unit

pub record IndexTold (log w : List ℕ) (answer : ℕ) (w' : List ℕ) : Type 0 where
  pub gave : answer ≡ index_code (answer_of (length w) 0 (rows_in log))
  pub left : w' ≡ index_words (answer_of (length w) 0 (rows_in log)) (rows_in log) w

-- ---- an index of n rows that goes on from a place of the log: 2^32 and how many rows there are then, or the refusal

pub record OnTold (log : List ℕ) (from : ℕ) (w : List ℕ) (n most answer : ℕ) (w' : List ℕ) : Type 0 where
  pub gave : answer ≡ index_code (answer_in most (length w) n (rows_on log from))
  pub left : w' ≡ extended_in large_batch (answer_in most (length w) n (rows_on log from)) (rows_on log from) w n

-- ---- a key: 1 and where its first entry begins, or 0 and 0

abbrev pub place_count : ℕ
place_count = 2

abbrev pub place_numbers_lem : Option ℕ → List ℕ
place_numbers_lem (some place) = 1 ∷ place ∷ []
place_numbers_lem none = 0 ∷ 0 ∷ []

-- 13 where the list has no room
pub record FindTold (w : List ℕ) (n s q : ℕ) (list : List ℕ) (answer : ℕ) (list' : List ℕ) : Type 0 where
  pub gave : answer ≡ pick (ltb (length list) place_count) 13 0
  pub left : list' ≡ pick (ltb (length list) place_count) list (overlay list 0 (place_numbers_lem (found_in w n s q)))
