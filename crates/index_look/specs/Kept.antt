-- An index file that is kept beside its log, and what a lookup by it says. Definitions only.
use Rattle.std.specs.Prelude.{◌≡◌, List, ℕ, length}
use Rattle.std.proofs.Math.Option.{Option, none, some}
use Rattle.log_index.specs.Rows.{Row, sorted}
use Rattle.log_index.specs.Index.{gathered, rows_in}
use Rattle.index_file.specs.File.{file_of}
use Rattle.index_look.specs.Looked.{Looked}
use Rattle.index_look.specs.Looked.{At, Nowhere}

-- the file of a log: it covers the whole log, and its rows are the log's, sorted
pub record FileOf (log f : List ℕ) : Type 0 where
  pub rows : List Row
  pub from-log : rows_in log ≡ gathered rows
  pub file : f ≡ file_of (length log) (sorted rows)

abbrev pub found_said : Option ℕ → Looked
found_said (some place) = At place
found_said none = Nowhere
