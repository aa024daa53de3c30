-- The numbers of an index: document 02, L11. Definitions only.
use Rattle.std.specs.Prelude.{ℕ}

-- "At most 4,096 entries"
abbrev pub max_index : ℕ
max_index = 4_096

-- how many rows are sorted among themselves before they are merged
abbrev pub batch_rows : ℕ
batch_rows = 64

-- and where there may be a million
abbrev pub large_batch : ℕ
large_batch = 1_024
