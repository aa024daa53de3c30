-- The lines of the program `gauge_bytes`, in ASCII, and what they are about. Definitions only.
use Rattle.std.specs.Prelude.{List, ◌++◌, ℕ, ltb, length, get_or, take, drop}
use Rattle.wire.specs.Text.{ascii}
use Rattle.wire.specs.Choice.{pick}
use Rattle.wire.specs.Bytes.{be}
use Rattle.moss.specs.Limits.{session_length, max_packet}
use Rattle.moss.specs.Packet.{Given, gives, refuses}
use Rattle.moss_writer.specs.Write.{packet_bytes, written_of}
use Rattle.text.specs.Text.{decimal, hex}
use Rattle.record_lines.specs.Streams.{Stream}
use Rattle.record_lines.specs.Lines.{lines_of}

-- a record: 10 session bytes, 4-byte sequence, type byte, message blocks
abbrev pub record_head : ℕ
record_head = 15

unfoldable pub record_bytes : List ℕ → List ℕ
record_bytes b = packet_bytes (take session_length b) (be 4 (drop 10 b)) (get_or b 14 0) (drop record_head b)

-- where it is whole, what the writer answers for an output of the longest packet
unfoldable pub record_answer : List ℕ → Given ℕ
record_answer b = pick (ltb (length b) record_head) (refuses 50) (written_of (get_or b 14 0) (drop record_head b) max_packet)

-- " bytes " and the packet, or " refused 53", and the end of the line
abbrev pub answer_text : Given ℕ → List ℕ → List ℕ
answer_text (refuses number) b = ascii " refused " ++ decimal number ++ ascii "\n"
answer_text (gives n) b = ascii " bytes " ++ hex b ++ ascii "\n"

-- line n
abbrev pub line : ℕ → List ℕ → List ℕ
line n b = decimal n ++ answer_text (record_answer b) (record_bytes b)

-- of all records, with the last line
abbrev pub lines : Stream → List ℕ
lines = lines_of (λ n x. line n x.body)
