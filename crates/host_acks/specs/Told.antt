-- WHAT THE C HOST IS TOLD OF ACKNOWLEDGE BLOCKS, for all that it may lend: an answer, and one number at the start of a list. Definitions only.
use Rattle.std.specs.Prelude.{◌≡◌, Bool, List, ℕ, length, set}
use Rattle.wire.specs.Choice.{pick}
use Rattle.wire.specs.Given.{code}
use Rattle.wire.specs.Slices.{Buffer, short}
use Rattle.ack_blocks.specs.Read.{Given, gives, refuses, asked}
use Rattle.ack_writer.specs.Write.{bytes_of, written_of, output_of}

-- ---- whether blocks acknowledge a number: 1 or 0 is told, and a refusal tells nothing

abbrev pub ask_left : Given Bool → List ℕ → List ℕ
ask_left (gives found) told = set told 0 (pick found 1 0)
ask_left (refuses number) told = told

-- 13 where there is no room to tell, before all else
pub record AskTold (blocks : List ℕ) (n : ℕ) (told : Buffer) (answer : ℕ) : Type 0 where
  pub gave : answer ≡ pick (short 1 told.before) 13 (code (asked blocks n))
  pub left : told.after ≡ pick (short 1 told.before) told.before (ask_left (asked blocks n) told.before)

-- ---- the blocks of numbers: how many bytes they take is told

abbrev pub write_left : Given ℕ → List ℕ → List ℕ
write_left (gives n) told = set told 0 n
write_left (refuses number) told = told

pub record WriteTold (l : List ℕ) (out told : Buffer) (answer : ℕ) : Type 0 where
  pub gave : answer ≡ pick (short 1 told.before) 13 (code (written_of l (length out.before)))
  pub output : out.after ≡ pick (short 1 told.before) out.before (output_of (written_of l (length out.before)) (bytes_of l) out.before)
  pub left : told.after ≡ pick (short 1 told.before) told.before (write_left (written_of l (length out.before)) told.before)
