-- What is said of a key in a log, by an index of so many words. Definition only.
use Rattle.std.specs.Prelude.{List, ℕ}
use Rattle.log_index.specs.Index.{rows_in, first_entry_lem, answer_of}
use Rattle.index_lines.specs.Lines.{answer_line}

abbrev pub key_line : ℕ → ℕ → ℕ → List ℕ → List ℕ
key_line words s q log = answer_line (answer_of words 0 (rows_in log)) (first_entry_lem log s q)
