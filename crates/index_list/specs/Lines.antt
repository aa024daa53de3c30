-- The lines of the program `index_list`, in ASCII. Definitions only.
use Rattle.std.specs.Prelude.{List, [], ◌∷◌, ◌++◌, ℕ}
use Rattle.log_index.specs.Rows.{Row, sorted}
use Rattle.log_index.specs.Index.{Gathered, gathered, stopped, rows_in, Answer, holds, refuses, answer_of}
use Rattle.log_lines.specs.Lines.{end_line}
use Rattle.index_lines.specs.Lines.{row_line, refused_line}

-- one line a row
abbrev pub row_lines : List Row → List ℕ
row_lines [] = []
row_lines (r ∷ rs) = row_line r ++ row_lines rs

-- the rows in the index's order, and how many there are; or the refusal alone
abbrev pub index_lines_lem : Answer → Gathered → List ℕ
index_lines_lem (refuses number) g = refused_line number
index_lines_lem (holds n) (gathered rs) = row_lines (sorted rs) ++ end_line n
index_lines_lem (holds n) (stopped number) = refused_line number

-- of a log, by an index of so many words
abbrev pub log_lines_lem : ℕ → List ℕ → List ℕ
log_lines_lem words log = index_lines_lem (answer_of words 0 (rows_in log)) (rows_in log)
