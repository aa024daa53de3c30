-- The lines of the program `gauge`, in ASCII, and what they are about. Definitions only.
use Rattle.std.specs.Prelude.{List, [], ◌∷◌, ◌++◌, map, ℕ, eqb, length}
use Rattle.wire.specs.Text.{ascii}
use Rattle.wire.specs.Choice.{pick}
use Rattle.differences.specs.Noted.{Noted, first, forward, same, late, restarted, refused}
use Rattle.moss.specs.Limits.{letter_u}
use Rattle.moss.specs.Packet.{Given, gives, refuses, Packet, packet_of}
use Rattle.gauge_watch.specs.Heard.{Gauge, silent, asked, after}
use Rattle.text.specs.Text.{decimal}
use Rattle.output.specs.Output.{last_line}
use Rattle.record_lines.specs.Streams.{Stream}
use Rattle.record_lines.specs.Lines.{Says, lines_after}

-- " first", " forward 3", " same", " late 2", " restarted 7" or " refused 51"
abbrev pub noted_text : Noted → List ℕ
noted_text first = ascii " first"
noted_text (forward missing) = ascii " forward " ++ decimal missing
noted_text same = ascii " same"
noted_text (late by) = ascii " late " ++ decimal by
noted_text (restarted number) = ascii " restarted " ++ decimal number
noted_text (refused number) = ascii " refused " ++ decimal number

-- each number after a space
abbrev pub spaced : List ℕ → List ℕ
spaced [] = []
spaced (n ∷ l) = (32 ∷ decimal n) ++ spaced l

-- " messages 5 0 12" for U, nothing for H and E
abbrev pub messages_text : ℕ → List ℕ → List ℕ
messages_text kind lengths = pick (eqb kind letter_u) (ascii " messages" ++ spaced lengths) []

-- line n of a packet, of which so is noted
abbrev pub line : ℕ → Given Packet → Noted → List ℕ
line n (refuses number) noted = decimal n ++ noted_text noted ++ ascii "\n"
line n (gives p) noted =
    decimal n ++ (32 ∷ p.kind ∷ []) ++ noted_text noted ++ messages_text p.kind (map length p.messages) ++ ascii "\n"

-- one gauge hears all packets: line n of each, and the last line
abbrev pub says : Says Gauge
says =
    record {
      line = λ n g x. line n (packet_of x.body) (asked g (packet_of x.body));
      after = λ g x. after g (packet_of x.body);
      last = last_line;
    }

abbrev pub lines : Stream → List ℕ
lines = lines_after says 0 silent
