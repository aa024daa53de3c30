-- The blocks of a list of numbers, and what the writer answers and writes: refusals 75, 77, 76 in that order. Definitions only.
use Rattle.std.specs.Prelude.{◌≡◌, Bool, true, false, ◌&&◌, ◌||◌, List, [], ◌∷◌, ℕ, ◌+◌, eqb, ltb, length, Result}
use Rattle.wire.specs.Choice.{pick}
use Rattle.wire.specs.Overlay.{overlay}
use Rattle.ack_blocks.specs.Limits.{max_blocks}
use Rattle.ack_blocks.specs.Blocks.{Block, single, run, laid}
use Rattle.ack_blocks.specs.Read.{Given, gives, refuses}
use Rattle.refusals.specs.declared.Refusal.{Refusal}
use Rattle.refusals.specs.Answers.{given}

-- n is in the list
abbrev pub member : List ℕ → ℕ → Bool
member [] n = false
member (x ∷ xs) n = eqb n x || member xs n

-- sorted and distinct
abbrev pub rising_from : ℕ → List ℕ → Bool
rising_from last [] = true
rising_from last (x ∷ xs) = ltb last x && rising_from x xs

abbrev pub rising : List ℕ → Bool
rising [] = true
rising (x ∷ xs) = rising_from x xs

-- a lone number is a single, a longer run is first to last
abbrev pub one_block : ℕ → ℕ → Block
one_block first last = pick (eqb first last) (single first) (run first last)

-- the blocks of an unbroken run from first to last and of the numbers after it: the run goes on as long as the next number is one more
abbrev pub blocks_from : ℕ → ℕ → List ℕ → List Block
blocks_from first last [] = one_block first last ∷ []
blocks_from first last (x ∷ xs) = pick (eqb x (last + 1)) (blocks_from first x xs) (one_block first last ∷ blocks_from x x xs)

abbrev pub blocks_of : List ℕ → List Block
blocks_of [] = []
blocks_of (x ∷ xs) = blocks_from x x xs

unfoldable pub bytes_of : List ℕ → List ℕ
bytes_of l = laid (blocks_of l)

-- so many bytes, where they are not too many and the output has room
abbrev pub room_for : ℕ → ℕ → Given ℕ
room_for n room = pick (ltb max_blocks n) (refuses 77) (pick (ltb room n) (refuses 76) (gives n))

unfoldable pub written_of : List ℕ → ℕ → Given ℕ
written_of l room = pick (rising l) (room_for (length (bytes_of l)) room) (refuses 75)

-- the code's answer, in the paper's values
abbrev pub writes : Result ℕ Refusal → Given ℕ
writes r = given r

-- a refusal leaves the output; else the bytes stand at its start
abbrev pub output_of : Given ℕ → List ℕ → List ℕ → List ℕ
output_of (refuses number) b out = out
output_of (gives n) b out = overlay out 0 b

-- the answer, and every byte of the lent output
pub record WritesBlocks (l out : List ℕ) (r : Result ℕ Refusal) (out' : List ℕ) : Type 0 where
  pub answer : writes r ≡ written_of l (length out)
  pub output : out' ≡ output_of (written_of l (length out)) (bytes_of l) out
