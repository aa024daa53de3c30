-- The gauge in four lent words, and what the C host is told of a packet. Definitions only.
use Rattle.std.specs.Prelude.{◌≡◌, List, [], ◌∷◌, ◌++◌, ℕ, ◌%◌, ◌^◌, eqb, get_or, drop}
use Rattle.wire.specs.Choice.{pick, ◌when◌else◌}
use Rattle.wire.specs.Bytes.{be, bytes}
use Rattle.wire.specs.Overlay.{overlay}
use Rattle.wire.specs.Slices.{Buffer, short}
use Rattle.differences.specs.Noted.{Noted, noted_code_lem, moves}
use Rattle.moss.specs.Packet.{packet_of}
use Rattle.gauge_watch.specs.Heard.{Gauge, asked, after}

-- the gauge that words show: 1 where a session was heard, the number of its last message, eight bytes of the session and two
abbrev pub gauge_in : List ℕ → Gauge
gauge_in w = record { session = bytes 8 (get_or w 2 0) ++ bytes 2 (get_or w 3 0); last = get_or w 1 0 % 2 ^ 32; started = eqb (get_or w 0 0) 1 }

abbrev pub gauge_words_lem : Gauge → List ℕ
gauge_words_lem g = pick g.started 1 0 ∷ g.last ∷ be 8 g.session ∷ be 2 (drop 8 g.session) ∷ []

-- where the watch does not move, a refusal too, nothing is written; else the gauge's words stand at the start
abbrev pub moved_words : Noted → Gauge → List ℕ → List ℕ
moved_words noted g w = pick (moves noted) (overlay w 0 (gauge_words_lem g)) w

-- 13 where the words are too few
pub record SeeTold (gauge : Buffer) (packet : List ℕ) (answer : ℕ) : Type 0 where
  pub gave : answer ≡ pick (short 4 gauge.before) 13 (noted_code_lem (asked (gauge_in gauge.before) (packet_of packet)))
  pub left : gauge.after ≡ (gauge.before when short 4 gauge.before else
      moved_words (asked (gauge_in gauge.before) (packet_of packet)) (after (gauge_in gauge.before) (packet_of packet)) gauge.before)
