-- The lines of the program `gaps`, in ASCII, and what they are about. Definitions only.
use Rattle.std.specs.Prelude.{◌≡◌, List, ◌++◌, ℕ}
use Rattle.wire.specs.Text.{ascii}
use Rattle.datagram.specs.Limits.{max_payload, max_fragments}
use Rattle.datagram.specs.Read.{Read, Good, Refused, read_datagram_lem}
use Rattle.watch.specs.declared.Watch.{Watch}
use Rattle.watch.specs.declared.Seen.{Seen}
use Rattle.differences.specs.Noted.{Noted, first, forward, same, late, restarted, refused, notes}
use Rattle.watch.specs.Watching.{asked, after}
use Rattle.watch.specs.Senders.{empty}
use Rattle.text.specs.Text.{decimal}
use Rattle.output.specs.Output.{last_line}
use Rattle.record_lines.specs.Streams.{Rec, Stream}
use Rattle.record_lines.specs.Lines.{Says, lines_after}

-- what is said of a datagram of sender 0, by what the reader made of it, and the watch afterwards
abbrev pub said_of : Watch → Read → Noted
said_of w (Good header) = asked w 0 header.sequence
said_of w (Refused number) = refused number

abbrev pub after_of : Watch → Read → Watch
after_of w (Good header) = after w 0 header.sequence
after_of w (Refused number) = w

pub record Judged (w : Watch) (d : List ℕ) (r : Seen) : Type 0 where
  pub answer : notes r.answer ≡ said_of w (read_datagram_lem max_payload max_fragments d)
  pub watch : r.watch ≡ after_of w (read_datagram_lem max_payload max_fragments d)

-- " first", " forward 3", " same", " late 2", " restarted 7" or " refused 4", and the end of the line
abbrev pub answer_text : Noted → List ℕ
answer_text first = ascii " first\n"
answer_text (forward missing) = ascii " forward " ++ decimal missing ++ ascii "\n"
answer_text same = ascii " same\n"
answer_text (late by) = ascii " late " ++ decimal by ++ ascii "\n"
answer_text (restarted number) = ascii " restarted " ++ decimal number ++ ascii "\n"
answer_text (refused number) = ascii " refused " ++ decimal number ++ ascii "\n"

-- line n
abbrev pub line : ℕ → Noted → List ℕ
line n said = decimal n ++ answer_text said

-- one watch goes through all datagrams: line n of each, and the last line
abbrev pub read_in : Rec → Read
read_in x = read_datagram_lem max_payload max_fragments x.body

abbrev pub says : Says Watch
says = record { line = λ n w x. line n (said_of w (read_in x)); after = λ w x. after_of w (read_in x); last = last_line }

abbrev pub lines : Stream → List ℕ
lines = lines_after says 0 empty
