-- The lines of the program `acks`, in ASCII, and what they are about. Definitions only.
use Rattle.std.specs.Prelude.{Bool, true, false, List, ◌++◌, ℕ, ltb, length, drop}
use Rattle.wire.specs.Text.{ascii}
use Rattle.wire.specs.Choice.{pick}
use Rattle.wire.specs.Bytes.{be}
use Rattle.ack_blocks.specs.Read.{Given, gives, refuses, asked}
use Rattle.text.specs.Text.{decimal}
use Rattle.record_lines.specs.Streams.{Stream}
use Rattle.record_lines.specs.Lines.{lines_of}

-- a record: an 8-byte number, then blocks
abbrev pub number_length : ℕ
number_length = 8

unfoldable pub record_answer : List ℕ → Given Bool
record_answer b = pick (ltb (length b) number_length) (refuses 70) (asked (drop number_length b) (be number_length b))

-- " yes", " no" or " refused 71", and the end of the line
abbrev pub answer_text : Given Bool → List ℕ
answer_text (gives true) = ascii " yes\n"
answer_text (gives false) = ascii " no\n"
answer_text (refuses number) = ascii " refused " ++ decimal number ++ ascii "\n"

-- line n
abbrev pub line : ℕ → List ℕ → List ℕ
line n b = decimal n ++ answer_text (record_answer b)

-- of all records, with the last line
abbrev pub lines : Stream → List ℕ
lines = lines_of (λ n x. line n x.body)
