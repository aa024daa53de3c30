-- What a MossUDP packet says: source document 002, and refusals 50 to 53 in that order. Definitions only.
use Rattle.std.specs.Prelude.{Bool, not, ◌||◌, List, ℕ, eqb, ltb, length, get_or, take, drop}
use Rattle.std.proofs.Math.Option.{Option, none, some}
use Rattle.wire.specs.Choice.{pick, ◌when◌else◌}
use Rattle.wire.specs.Bytes.{be}
pub use Rattle.wire.specs.Given.{Given, gives, refuses}
use Rattle.moss.specs.Limits.{session_length, head_length, max_packet, letter_u, letter_h, letter_e}
use Rattle.moss.specs.Blocks.{nothing_in, messages_in}

pub record Packet : Type 0 where
  pub session : List ℕ
  pub sequence : ℕ
  pub kind : ℕ
  pub messages : List (List ℕ)

-- ---- the fields of the header, by their offsets

abbrev pub length_in : List ℕ → ℕ
length_in b = be 4 b

abbrev pub session_place : ℕ
session_place = 4

abbrev pub session_in : List ℕ → List ℕ
session_in b = take session_length (drop session_place b)

abbrev pub sequence_in : List ℕ → ℕ
sequence_in b = be 4 (drop 14 b)

abbrev pub kind_in : List ℕ → ℕ
kind_in b = get_or b 18 0

-- ---- the types and what they carry

abbrev pub known_kind : ℕ → Bool
known_kind k = eqb k letter_u || (eqb k letter_h || eqb k letter_e)

-- U carries message blocks, H and E carry none
abbrev pub carried : ℕ → List ℕ → Option (List (List ℕ))
carried k b = pick (eqb k letter_u) (messages_in b) (nothing_in b)

-- what is wrong with the bytes that a packet of a type is to carry: 0 where nothing is
abbrev pub fill_fault : Option (List (List ℕ)) → ℕ
fill_fault none = 53
fill_fault (some ms) = 0

unfoldable pub block_fault_lem : ℕ → List ℕ → ℕ
block_fault_lem k b = pick (known_kind k) (fill_fault (carried k b)) 52

-- ---- the packet

abbrev pub held : List ℕ → Option (List (List ℕ)) → Given Packet
held b none = refuses 53
held b (some ms) = gives (record { session = session_in b; sequence = sequence_in b; kind = kind_in b; messages = ms })

unfoldable pub packet_of : List ℕ → Given Packet
packet_of b =
    refuses 50 when ltb (length b) head_length else
    refuses 51 when not (eqb (length_in b) (length b)) || ltb max_packet (length b) else
    held b (carried (kind_in b) (drop head_length b)) when known_kind (kind_in b) else
    refuses 52
