-- The blocks in some bytes, and whether they acknowledge a number: refusal 77 first, then at each block 71, 70, 72, 73, 74 in that order.
-- Definitions only.
use Rattle.std.specs.Prelude.{Bool, ◌||◌, List, [], ◌∷◌, ℕ, zero, suc, ◌+◌, ◌-◌, ◌*◌, ◌/◌, ◌%◌, ◌^◌, eqb, ltb, length, take, drop, Result}
use Rattle.wire.specs.Choice.{pick, ◌when◌else◌}
use Rattle.wire.specs.Bytes.{be}
pub use Rattle.wire.specs.Given.{Given, gives, refuses}
use Rattle.ack_blocks.specs.Limits.{max_blocks, largest, kind_single, kind_run, kind_map, single_length, run_length_lem, map_head}
use Rattle.ack_blocks.specs.Blocks.{Block, single, run, map, acknowledges}
use Rattle.refusals.specs.declared.Refusal.{Refusal}
use Rattle.refusals.specs.Answers.{given}

-- ---- the block at the front of b, by its offsets

abbrev pub kind_in : List ℕ → ℕ
kind_in b = be 1 b

-- the number, the first of a run or the start of a map
abbrev pub first_in : List ℕ → ℕ
first_in b = be 8 (drop 1 b)

abbrev pub last_in : List ℕ → ℕ
last_in b = be 8 (drop 9 b)

abbrev pub bits_in : List ℕ → ℕ
bits_in b = be 2 (drop 9 b)

-- the bytes of a map: bits divided by 8, rounded up
abbrev pub map_bytes_lem : ℕ → ℕ
map_bytes_lem bits = (bits + 7) / 8

abbrev pub map_in : List ℕ → List ℕ
map_in b = take (map_bytes_lem (bits_in b)) (drop map_head b)

unfoldable pub size_in : List ℕ → ℕ
size_in b = pick (eqb (kind_in b) kind_single) single_length (pick (eqb (kind_in b) kind_run) run_length_lem (map_head + map_bytes_lem (bits_in b)))

unfoldable pub block_in : List ℕ → Block
block_in b =
    single (first_in b) when eqb (kind_in b) kind_single else
    run (first_in b) (last_in b) when eqb (kind_in b) kind_run else
    map (first_in b) (bits_in b) (map_in b)

-- ---- what is wrong with it: 0 where nothing is

abbrev pub run_fault_lem : List ℕ → ℕ
run_fault_lem b = pick (ltb (last_in b) (first_in b)) 72 0

-- the bits of the last byte of the map below its last bit
abbrev pub padding : List ℕ → ℕ
padding b = be 1 (drop (10 + map_bytes_lem (bits_in b)) b) % 2 ^ (8 * map_bytes_lem (bits_in b) - bits_in b)

unfoldable pub map_fault_lem : List ℕ → ℕ
map_fault_lem b =
    73 when eqb (bits_in b) 0 || ltb largest (first_in b + bits_in b - 1) else
    0 when eqb (padding b) 0 else
    74

unfoldable pub fault_in : List ℕ → ℕ
fault_in b =
    71 when ltb kind_map (kind_in b) else
    70 when ltb (length b) (size_in b) else
    run_fault_lem b when eqb (kind_in b) kind_run else
    map_fault_lem b when eqb (kind_in b) kind_map else
    0

-- ---- the list

abbrev pub before : Block → Given (List Block) → Given (List Block)
before b (refuses number) = refuses number
before b (gives bs) = gives (b ∷ bs)

-- where no kind byte is left the list ends; else there is a block, and then the rest
abbrev pub first_then : List ℕ → Given (List Block) → Given (List Block)
first_then [] rest = gives []
first_then (x ∷ b) rest = pick (eqb (fault_in (x ∷ b)) 0) (before (block_in (x ∷ b)) rest) (refuses (fault_in (x ∷ b)))

-- the blocks of b, of which there are at most so many
unfoldable pub blocks_within : ℕ → List ℕ → Given (List Block)
blocks_within zero b = gives []
blocks_within (suc turns) b = first_then b (blocks_within turns (drop (size_in b) b))

-- a block has at least one byte, so there are no more blocks than bytes
abbrev pub blocks_in : List ℕ → Given (List Block)
blocks_in b = blocks_within (length b) b

-- ---- the question

abbrev pub told : ℕ → Given (List Block) → Given Bool
told n (refuses number) = refuses number
told n (gives bs) = gives (acknowledges bs n)

unfoldable pub asked : List ℕ → ℕ → Given Bool
asked b n = pick (ltb max_blocks (length b)) (refuses 77) (told n (blocks_in b))

-- the code's answer, in the paper's values
abbrev pub answers : Result Bool Refusal → Given Bool
answers r = given r
