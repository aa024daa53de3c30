-- What the indexer answers and leaves: document 02, L11. "Added entries extend it"; "44 index full, after the log's own, and the index unchanged".
-- Definitions only.
use Rattle.std.specs.Prelude.{◌≡◌, Result, Ok, Err, List, ℕ, ◌-◌, ◌*◌, max, length, take}
use Rattle.wire.specs.Overlay.{overlay}
use Rattle.wire.specs.Taken.{Taken, taken, refused}
use Rattle.flight_log.specs.Editions.{Edition, head_in, limits_of}
use Rattle.log_index.specs.Limits.{max_index, batch_rows, large_batch}
use Rattle.log_index.specs.Rows.{Row, sorted}
use Rattle.log_index.specs.Index.{Gathered, gathered, stopped, rows_from, rows_in, rows_added, Answer, holds, refuses, answer_in}
use Rattle.log_index.specs.Words.{words_of, added_in}
use Rattle.refusals.specs.declared.Refusal.{Refusal}
use Rattle.refusals.specs.Numbers.{number_of}

-- the code's answer: how many rows the index has now, or the refusal
abbrev pub Indexed : Type 0
Indexed = Result ℕ Refusal

-- in the paper's values
abbrev pub says : Indexed → Answer
says (Ok n) = holds n
says (Err r) = refuses (number_of r)

-- ---- afresh: the sorted rows at the start of the lent words, and the rest stays; a refusal leaves all

abbrev pub index_words : Answer → Gathered → List ℕ → List ℕ
index_words (holds n) (gathered rs) w = overlay w 0 (words_of (sorted rs))
index_words (holds n) (stopped k) w = w
index_words (refuses k) g w = w

pub record IndexesIn (most : ℕ) (log w : List ℕ) (r : Indexed) (w' : List ℕ) : Type 0 where
  pub answer : says r ≡ answer_in most (length w) 0 (rows_in log)
  pub index : w' ≡ index_words (answer_in most (length w) 0 (rows_in log)) (rows_in log) w

abbrev pub Indexes : List ℕ → List ℕ → Indexed → List ℕ → Type 0
Indexes log w r w' = IndexesIn max_index log w r w'

-- the first n rows of some words are the index of a log
pub record IndexOf (log w : List ℕ) (n : ℕ) : Type 0 where
  pub rows : List Row
  pub from-log : rows_in log ≡ gathered rows
  pub count : n ≡ length rows
  pub words : take (3 * n) w ≡ words_of (sorted rows)

-- ---- extended: to the first n rows of the lent words, whatever they are, those of the entries from a place on

-- b rows a batch
abbrev pub extended_in : ℕ → Answer → Gathered → List ℕ → ℕ → List ℕ
extended_in b (holds m) (gathered rs) w n = added_in b w n rs
extended_in b (holds m) (stopped k) w n = w
extended_in b (refuses k) g w n = w

pub record AddsIn (most b : ℕ) (g : Gathered) (w : List ℕ) (n : ℕ) (r : Indexed) (w' : List ℕ) : Type 0 where
  pub answer : says r ≡ answer_in most (length w) n g
  pub index : w' ≡ extended_in b (answer_in most (length w) n g) g w n

abbrev pub Adds : Gathered → List ℕ → ℕ → Indexed → List ℕ → Type 0
Adds g w n r w' = AddsIn max_index batch_rows g w n r w'

abbrev pub Extends : List ℕ → ℕ → List ℕ → ℕ → Indexed → List ℕ → Type 0
Extends log from w n r w' = Adds (rows_added log from) w n r w'

-- ---- with the most rows that are asked for: from a place on, where any below the first entry is the first entry's

abbrev pub rows_onward : List ℕ → ℕ → Taken Edition → Gathered
rows_onward log from (taken v b) = rows_from (limits_of v) log (max from (length log - length b))
rows_onward log from (refused n) = stopped n

unfoldable pub rows_on : List ℕ → ℕ → Gathered
rows_on log from = rows_onward log from (head_in log)

abbrev pub IndexesOn : List ℕ → ℕ → List ℕ → ℕ → ℕ → Indexed → List ℕ → Type 0
IndexesOn log from w n most r w' = AddsIn most large_batch (rows_on log from) w n r w'
