-- The bytes of a packet, and what the writer answers and writes: refusals 51, 52, 53, 55 in that order. Definitions only.
use Rattle.std.specs.Prelude.{◌≡◌, List, ◌++◌, ℕ, ◌+◌, ltb, length, Result}
use Rattle.std.proofs.Math.Option.{Option, none, some}
use Rattle.wire.specs.Choice.{pick, ◌when◌else◌}
use Rattle.wire.specs.Bytes.{bytes}
use Rattle.wire.specs.Overlay.{overlay}
use Rattle.moss.specs.Limits.{head_length, max_packet, max_message}
use Rattle.moss.specs.Blocks.{block}
use Rattle.moss.specs.Packet.{Given, gives, refuses, known_kind, carried}
use Rattle.refusals.specs.declared.Refusal.{Refusal}
use Rattle.refusals.specs.Answers.{given}

unfoldable pub packet_bytes : List ℕ → ℕ → ℕ → List ℕ → List ℕ
packet_bytes session sequence kind blocks = bytes 4 (head_length + length blocks) ++ session ++ bytes 4 sequence ++ bytes 1 kind ++ blocks

-- so many bytes, where the output has room
abbrev pub room_for : ℕ → ℕ → Given ℕ
room_for n room = pick (ltb room n) (refuses 55) (gives n)

abbrev pub filled_by : Option (List (List ℕ)) → ℕ → ℕ → Given ℕ
filled_by none n room = refuses 53
filled_by (some ms) n room = room_for n room

unfoldable pub written_of : ℕ → List ℕ → ℕ → Given ℕ
written_of kind blocks room =
    refuses 51 when ltb max_packet (head_length + length blocks) else
    filled_by (carried kind blocks) (head_length + length blocks) room when known_kind kind else
    refuses 52

-- one block at a place
unfoldable pub laid_of : List ℕ → ℕ → ℕ → Given ℕ
laid_of message at room =
    refuses 51 when ltb max_message (length message) else
    refuses 55 when ltb room (at + (2 + length message)) else
    gives (2 + length message)

-- the code's answer, in the paper's values
abbrev pub writes : Result ℕ Refusal → Given ℕ
writes r = given r

-- a refusal leaves the output; else the bytes stand at their place
abbrev pub output_of : Given ℕ → List ℕ → ℕ → List ℕ → List ℕ
output_of (refuses number) out at b = out
output_of (gives n) out at b = overlay out at b

-- the answer, and every byte of the lent output
pub record WrittenTo (said : Given ℕ) (at : ℕ) (b out : List ℕ) (r : Result ℕ Refusal) (out' : List ℕ) : Type 0 where
  pub answer : writes r ≡ said
  pub output : out' ≡ output_of said out at b

-- of a packet at the start of the output, and of a block at a place
abbrev pub WritesPacket : List ℕ → ℕ → ℕ → List ℕ → List ℕ → Result ℕ Refusal → List ℕ → Type 0
WritesPacket session sequence kind blocks out r out' = WrittenTo (written_of kind blocks (length out)) 0 (packet_bytes session sequence kind blocks) out r out'

abbrev pub LaysBlock : List ℕ → ℕ → List ℕ → Result ℕ Refusal → List ℕ → Type 0
LaysBlock message at out r out' = WrittenTo (laid_of message at (length out)) at (block message) out r out'
