-- The lines of the program `ack_bytes`, in ASCII, and what they are about. Definitions only.
use Rattle.std.specs.Prelude.{List, [], ◌∷◌, ◌++◌, ℕ, ◌/◌, ◌%◌, eqb, ltb, length}
use Rattle.wire.specs.Text.{ascii}
use Rattle.wire.specs.Choice.{pick}
use Rattle.ack_blocks.specs.Limits.{max_blocks}
use Rattle.ack_blocks.specs.Read.{Given, gives, refuses}
use Rattle.ack_writer.specs.Write.{bytes_of, written_of}
use Rattle.text.specs.Text.{decimal, hex}
use Rattle.record_lines.specs.Streams.{Stream, numbers_in}
use Rattle.record_lines.specs.Lines.{lines_of}

-- the numbers that the program holds
abbrev pub list_limit : ℕ
list_limit = 65_536

abbrev pub numbers_of : ℕ → List ℕ → List ℕ
numbers_of = numbers_in (λ x. x)

abbrev pub record_list : List ℕ → List ℕ
record_list b = numbers_of (length b / 8) b

-- where the numbers are whole, what the writer answers for an output of the longest block list
unfoldable pub record_answer : List ℕ → Given ℕ
record_answer b = pick (eqb (length b % 8) 0) (written_of (record_list b) max_blocks) (refuses 70)

-- " bytes 000000000000000001"; nothing after the word where there are no blocks
abbrev pub bytes_text : List ℕ → List ℕ
bytes_text [] = ascii " bytes\n"
bytes_text (x ∷ b) = ascii " bytes " ++ hex (x ∷ b) ++ ascii "\n"

-- the blocks, or " refused 75", and the end of the line
abbrev pub answer_text : Given ℕ → List ℕ → List ℕ
answer_text (refuses number) b = ascii " refused " ++ decimal number ++ ascii "\n"
answer_text (gives n) b = bytes_text b

-- " longer than 65536 numbers"
abbrev pub longer_text : List ℕ
longer_text =
    ascii " longer than " ++ decimal list_limit
    ++ ascii " numbers\n"

-- line n
unfoldable pub line : ℕ → List ℕ → List ℕ
line n b = decimal n ++ pick (ltb list_limit (length b / 8)) longer_text (answer_text (record_answer b) (bytes_of (record_list b)))

-- of all records, with the last line
abbrev pub lines : Stream → List ℕ
lines = lines_of (λ n x. line n x.body)
