-- ACKNOWLEDGE BLOCKS AND THEIR BYTES DETERMINE EACH OTHER, bitmaps too. Its proofs are `blocks-back`, `bytes_back` and `blocks-asked` of proofs/Acks. Definitions only.
use Rattle.std.specs.Prelude.{◌≡◌, false, List, [], ◌∷◌, ℕ, ◌+◌, ◌-◌, ◌*◌, ◌≤◌, ◌<◌, length}
use Rattle.wire.specs.Bytes.{Bytes}
use Rattle.ack_blocks.specs.Limits.{max_blocks, largest}
use Rattle.ack_blocks.specs.Blocks.{Block, single, run, map, bit_of, acknowledges, laid}
use Rattle.ack_blocks.specs.Read.{gives, blocks_in, asked}

-- a bitmap: at least one bit, as many as two bytes count, in a byte for each eight or part of eight; its last number is a 64-bit number, and each bit behind its last is 0
pub record LawfulMap (start bits : ℕ) (m : List ℕ) : Type 0 where
  pub some : 1 ≤ bits
  pub few : bits < 65_536
  pub room : bits ≤ 8 * length m
  pub no_more : 8 * length m < bits + 8
  pub each-byte : Bytes m
  pub last_fits : start + bits - 1 ≤ largest
  pub padded : (i : ℕ) → bits ≤ i → i < 8 * length m → bit_of m i ≡ false

abbrev pub Lawful : Block → Type 0
Lawful (single p) = p ≤ largest
Lawful (run first last) = (first ≤ last) × (last ≤ largest)
Lawful (map start bits m) = LawfulMap start bits m

abbrev pub AllLawful : List Block → Type 0
AllLawful [] = Unit {0}
AllLawful (k ∷ bs) = Lawful k × AllLawful bs

-- the bytes of lawful blocks are read as these blocks
abbrev pub BlocksBack : Type 0
BlocksBack = (bs : List Block) → AllLawful bs → blocks_in (laid bs) ≡ gives bs

-- bytes that are read as blocks are the bytes of these blocks, and they are lawful
pub record Determined (b : List ℕ) (bs : List Block) : Type 0 where
  pub bytes-are : laid bs ≡ b
  pub lawful : AllLawful bs

abbrev pub BytesBack : Type 0
BytesBack = (b : List ℕ) → Bytes b → (bs : List Block) → blocks_in b ≡ gives bs → Determined b bs

-- so a list of lawful blocks, of at most 65,535 bytes, is asked as its blocks say
abbrev pub BlocksAsked : Type 0
BlocksAsked = (bs : List Block) → AllLawful bs → length (laid bs) ≤ max_blocks → (n : ℕ) → asked (laid bs) n ≡ gives (acknowledges bs n)
