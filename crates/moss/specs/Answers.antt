-- What the code's answers mean, in the paper's values. Definitions only.
use Rattle.std.specs.Prelude.{◌≡◌, ℕ, Result, Ok, Err, MatchResult, length, false}
use Rattle.refusals.specs.declared.Refusal.{Refusal}
use Rattle.refusals.specs.declared.Refusal.TheVariants.{PacketKind}
use Rattle.refusals.specs.Numbers.{number_of}
use Rattle.moss.specs.Limits.{letter_u, letter_h, letter_e}
use Rattle.moss.specs.Packet.{Given, gives, refuses, Packet, session_place, known_kind}
use Rattle.moss.specs.Message.{Part}
use Rattle.moss.specs.declared.Kind.{Kind}
use Rattle.moss.specs.declared.Kind.TheVariants.{Data, Heartbeat, End}
use Rattle.moss.specs.declared.Header as code
use Rattle.moss.specs.declared.Place.{Place}

-- a packet's numbers: where its session stands, its sequence, its type, its count of messages
pub record Header : Type 0 where
  pub session : ℕ
  pub sequence : ℕ
  pub kind : ℕ
  pub count : ℕ

abbrev pub header_of : Packet → Header
header_of p = record { session = session_place; sequence = p.sequence; kind = p.kind; count = length p.messages }

abbrev pub headers_of : Given Packet → Given Header
headers_of (gives p) = gives (header_of p)
headers_of (refuses number) = refuses number

-- ---- the types

abbrev pub letter_of : Kind → ℕ
letter_of Data = letter_u
letter_of Heartbeat = letter_h
letter_of End = letter_e

-- the type of a letter; 52 where it has none
abbrev pub KindOf : ℕ → Result Kind Refusal → Type 0
KindOf letter r = MatchResult r (λ kind. letter_of kind ≡ letter) (λ refusal. (refusal ≡ PacketKind) × (known_kind letter ≡ false))

-- ---- the answers

abbrev pub said : code.Header → Header
said h = record { session = h.session; sequence = h.sequence; kind = letter_of h.kind; count = h.count }

abbrev pub reads : Result code.Header Refusal → Given Header
reads (Ok h) = gives (said h)
reads (Err refusal) = refuses (number_of refusal)

abbrev pub part_of : Place → Part
part_of place = record { at = place.at; len = place.len }

abbrev pub locates : Result Place Refusal → Given Part
locates (Ok place) = gives (part_of place)
locates (Err refusal) = refuses (number_of refusal)

-- 0 where nothing is wrong
abbrev pub faults : Result (Unit {0}) Refusal → ℕ
faults (Ok done) = 0
faults (Err refusal) = number_of refusal
