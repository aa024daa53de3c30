-- The numbers of acknowledge blocks and of their refusals. Definitions only.
use Rattle.std.specs.Prelude.{ℕ, ◌+◌}

-- a block list's length has 2 bytes
abbrev pub max_blocks : ℕ
max_blocks = 65_535

-- the largest 64-bit number
abbrev pub largest : ℕ
largest = 18_446_744_073_709_551_615

-- the kinds: a single number, first to last, a bitmap
abbrev pub kind_single : ℕ
kind_single = 0

abbrev pub kind_run : ℕ
kind_run = 1

abbrev pub kind_map : ℕ
kind_map = 2

-- kind and number; kind, first and last; kind, start and bits
abbrev pub single_length : ℕ
single_length = 1 + 8

abbrev pub run_length_lem : ℕ
run_length_lem = 1 + 8 + 8

abbrev pub map_head : ℕ
map_head = 1 + 8 + 2
