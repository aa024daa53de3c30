-- INSIDE: what only private contracts use. Definitions only; no promise of a public function rests on them.
use Rattle.std.specs.Prelude.{ℕ, ◌+◌, ◌*◌, ◌≤◌, length, List}
use Rattle.index_file.specs.File.{head_length, row_length}

-- there are bytes for n rows
abbrev pub Holds : List ℕ → ℕ → Type 0
Holds f n = head_length + row_length * n ≤ length f
