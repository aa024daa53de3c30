-- WHAT THE C HOST IS TOLD OF A MESSAGE THAT IS WRITTEN, for all that it may lend: an answer, and its length at the start of a list. Definitions only.
use Rattle.std.specs.Prelude.{◌≡◌, List, ℕ, ltb, ℤ, length, set}
use Rattle.wire.specs.Choice.{pick}
use Rattle.wire.specs.Slices.{Buffer, short}
use Rattle.lmcp.specs.Made.{Made, Bytes, Refused}
use Rattle.lmcp.specs.Write.{Write}
use Rattle.lmcp.specs.Message.{made, written}
use Rattle.lmcp.specs.Lists.{write_list}

-- the checksum is calculated where the host's number is not 0
abbrev pub message_of : List ℤ → ℕ → Write
message_of numbers sum = write_list (ltb 0 sum) numbers

-- 0, or the number of the refusal; and what is told: the length, or nothing
abbrev pub made_code : Made → ℕ
made_code (Bytes n) = 0
made_code (Refused number) = number

abbrev pub made_left : Made → List ℕ → List ℕ
made_left (Bytes n) told = set told 0 n
made_left (Refused number) told = told

-- 13 where there is no room to tell, before all else
pub record MessageTold (numbers : List ℤ) (sum : ℕ) (out told : Buffer) (answer : ℕ) : Type 0 where
  pub gave : answer ≡ pick (short 1 told.before) 13 (made_code (made (message_of numbers sum) (length out.before)))
  pub output : out.after ≡ pick (short 1 told.before) out.before (written (message_of numbers sum) out.before)
  pub left : told.after ≡ pick (short 1 told.before) told.before (made_left (made (message_of numbers sum) (length out.before)) told.before)
