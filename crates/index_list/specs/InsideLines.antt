-- The lines of the first rows of some words. Used by private contracts only.
use Rattle.std.specs.Prelude.{List, [], ◌++◌, ℕ, zero, suc}
use Rattle.log_index.specs.Words.{row_at}
use Rattle.index_lines.specs.Lines.{row_line}

abbrev pub lines_below : ℕ → List ℕ → List ℕ
lines_below zero w = []
lines_below (suc i) w = lines_below i w ++ row_line (row_at w i)
