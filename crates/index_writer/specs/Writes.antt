-- What the writer of an index file answers and leaves. Definitions only.
use Rattle.std.specs.Prelude.{◌≡◌, List, ℕ, ◌+◌, ◌*◌, eqb, ltb, length}
use Rattle.wire.specs.Choice.{pick, ◌when◌else◌}
use Rattle.wire.specs.Overlay.{overlay}
use Rattle.log_index.specs.Words.{row_at}
use Rattle.index_file.specs.File.{head_length, row_length, file_of, first_rows}

-- the first n rows of lent words go into a file; 13 where there are fewer, or too few bytes

unfoldable pub file_answer : ℕ → ℕ → ℕ → ℕ
file_answer words n room =
    13 when ltb words (3 * n) else
    13 when ltb room (head_length + row_length * n) else
    0

pub record WritesFile (w : List ℕ) (n covered : ℕ) (f : List ℕ) (answer : ℕ) (f' : List ℕ) : Type 0 where
  pub gave : answer ≡ file_answer (length w) n (length f)
  pub left : f' ≡ pick (eqb (file_answer (length w) n (length f)) 0) (overlay f 0 (file_of covered (first_rows n (row_at w)))) f
