-- Acknowledge blocks, source document 001 as document 02, L13, has it: what each acknowledges, and its bytes. Definitions only.
use Rattle.std.specs.Prelude.{Bool, false, ◌&&◌, ◌||◌, List, [], ◌∷◌, ◌++◌, ℕ, ◌-◌, ◌/◌, ◌%◌, ◌^◌, eqb, ltb, leb, get_or}
use Rattle.wire.specs.Bytes.{bytes}
use Rattle.ack_blocks.specs.Limits.{kind_single, kind_run, kind_map}

-- one number; first to last; a bitmap: its start, its bits and its bytes
pub data Block : Type 0 where
  single : ℕ → Block
  run : ℕ → ℕ → Block
  map : ℕ → ℕ → List ℕ → Block

-- bit i of a map, from the top of each byte
abbrev pub bit_of : List ℕ → ℕ → Bool
bit_of m i = eqb (get_or m (i / 8) 0 / 2 ^ (7 - i % 8) % 2) 1

-- first to last, both of them
abbrev pub between : ℕ → ℕ → ℕ → Bool
between first last n = leb first n && leb n last

-- the first bit is the start; the last number is the start plus the bits less one
abbrev pub in_map : ℕ → ℕ → List ℕ → ℕ → Bool
in_map start bits m n = leb start n && (ltb (n - start) bits && bit_of m (n - start))

-- n is one of the numbers that a block acknowledges
abbrev pub has : Block → ℕ → Bool
has (single p) n = eqb n p
has (run first last) n = between first last n
has (map start bits m) n = in_map start bits m n

-- or that some blocks do; they may overlap
abbrev pub acknowledges : List Block → ℕ → Bool
acknowledges [] n = false
acknowledges (b ∷ bs) n = has b n || acknowledges bs n

-- ---- bytes

abbrev pub block_bytes : Block → List ℕ
block_bytes (single p) = bytes 1 kind_single ++ bytes 8 p
block_bytes (run first last) = bytes 1 kind_run ++ bytes 8 first ++ bytes 8 last
block_bytes (map start bits m) = bytes 1 kind_map ++ bytes 8 start ++ bytes 2 bits ++ m

abbrev pub laid : List Block → List ℕ
laid [] = []
laid (b ∷ bs) = block_bytes b ++ laid bs
