-- WHAT THE C HOST IS TOLD OF THE GAUGE'S PACKETS, for all that it may lend: an answer, and numbers at the start of a list. Definitions only.
use Rattle.std.specs.Prelude.{◌≡◌, Bool, ◌||◌, List, [], ◌∷◌, ℕ, ltb, length, set, take}
use Rattle.wire.specs.Choice.{pick}
use Rattle.wire.specs.Overlay.{overlay}
use Rattle.wire.specs.Given.{code}
use Rattle.wire.specs.Slices.{Buffer, short}
use Rattle.moss.specs.Limits.{session_length}
use Rattle.moss.specs.Packet.{Given, gives, refuses, packet_of}
use Rattle.moss.specs.Message.{Part, place_in}
use Rattle.moss.specs.Answers.{Header, headers_of}
use Rattle.moss_writer.specs.Write.{packet_bytes, written_of, output_of}

-- ---- a packet: where its session stands, its sequence, its type, its count of messages

abbrev pub header_numbers : Header → List ℕ
header_numbers h = h.session ∷ h.sequence ∷ h.kind ∷ h.count ∷ []

-- a refusal tells nothing
abbrev pub packet_left : Given Header → List ℕ → List ℕ
packet_left (gives h) told = overlay told 0 (header_numbers h)
packet_left (refuses number) told = told

-- 13 where there is no room to tell, before all else
pub record PacketTold (packet : List ℕ) (told : Buffer) (answer : ℕ) : Type 0 where
  pub gave : answer ≡ pick (short 4 told.before) 13 (code (headers_of (packet_of packet)))
  pub left : told.after ≡ pick (short 4 told.before) told.before (packet_left (headers_of (packet_of packet)) told.before)

-- ---- message n of a packet: where it begins, and its length

abbrev pub place_left : Given Part → List ℕ → List ℕ
place_left (gives m) told = overlay told 0 (m.at ∷ m.len ∷ [])
place_left (refuses number) told = told

pub record PlaceTold (packet : List ℕ) (n : ℕ) (told : Buffer) (answer : ℕ) : Type 0 where
  pub gave : answer ≡ pick (short 2 told.before) 13 (code (place_in (packet_of packet) n))
  pub left : told.after ≡ pick (short 2 told.before) told.before (place_left (place_in (packet_of packet) n) told.before)

-- ---- a packet written: its length is told

abbrev pub length_left : Given ℕ → List ℕ → List ℕ
length_left (gives n) told = set told 0 n
length_left (refuses number) told = told

-- fewer bytes than a session has, or no room to tell
abbrev pub lacking : List ℕ → List ℕ → Bool
lacking session told = ltb (length session) session_length || short 1 told

-- the first ten bytes lent are the session
pub record WriteTold (session : List ℕ) (sequence kind : ℕ) (blocks : List ℕ) (out told : Buffer) (answer : ℕ) : Type 0 where
  pub gave : answer ≡ pick (lacking session told.before) 13 (code (written_of kind blocks (length out.before)))
  pub output : out.after ≡ pick (lacking session told.before) out.before
      (output_of (written_of kind blocks (length out.before)) out.before 0 (packet_bytes (take session_length session) sequence kind blocks))
  pub left : told.after ≡ pick (lacking session told.before) told.before (length_left (written_of kind blocks (length out.before)) told.before)
