-- What the gauge's watch notes of a packet, and the gauge afterwards: requests L4 and L5. Definitions only.
use Rattle.std.specs.Prelude.{◌≡◌, ℕ, ◌+◌, ◌-◌, ◌%◌, ◌^◌, Bool, true, false, ◌&&◌, List, length, replicate, Option, Some, None}
use Rattle.wire.specs.Choice.{pick}
use Rattle.wire.specs.Same.{same}
use Rattle.differences.specs.Noted.{Noted, first, refused, notes, moves}
use Rattle.differences.specs.Difference.{difference, told}
use Rattle.moss.specs.Limits.{session_length}
use Rattle.moss.specs.Packet.{Given, gives, refuses, Packet, packet_of}
use Rattle.gauge_watch.specs.declared.Session.{Session}
use Rattle.gauge_watch.specs.declared.Gauge as code
use Rattle.gauge_watch.specs.declared.Heard.{Heard}

-- whether a session was heard, its name, and the number of its last message
pub record Gauge : Type 0 where
  pub session : List ℕ
  pub last : ℕ
  pub started : Bool

-- nothing heard yet
abbrev pub silent : Gauge
silent = record { session = replicate session_length 0; last = 0; started = false }

-- the code's gauge
abbrev pub shows : Option Session → Gauge
shows None = silent
shows (Some s) = record { session = s.name; last = s.last; started = true }

abbrev pub said : code.Gauge → Gauge
said g = shows g.session

-- the session goes on
abbrev pub goes_on : Gauge → List ℕ → Bool
goes_on g session = g.started && same session g.session

-- the watch is asked about the packet's sequence; a new session starts a new watch
unfoldable pub noted_of : Gauge → Packet → Noted
noted_of g p = pick (goes_on g p.session) (told p.sequence (difference p.sequence g.last)) first

-- sequence plus count less one, wrapping
abbrev pub last_of : ℕ → ℕ → ℕ
last_of sequence count = (sequence + count + (2 ^ 32 - 1)) % 2 ^ 32

-- where the watch moves, so does the gauge
abbrev pub moved_to : Packet → Gauge
moved_to p = record { session = p.session; last = last_of p.sequence (length p.messages); started = true }

-- a packet that is refused leaves the gauge as it is
abbrev pub asked : Gauge → Given Packet → Noted
asked g (refuses number) = refused number
asked g (gives p) = noted_of g p

abbrev pub after : Gauge → Given Packet → Gauge
after g (refuses number) = g
after g (gives p) = pick (moves (noted_of g p)) (moved_to p) g

-- the answer and the whole gauge afterwards
pub record Hears (g : Gauge) (b : List ℕ) (r : Heard) : Type 0 where
  pub answer : notes r.answer ≡ asked g (packet_of b)
  pub gauge : said r.gauge ≡ after g (packet_of b)
