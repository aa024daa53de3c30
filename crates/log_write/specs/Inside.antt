-- INSIDE: the room for an entry, and the log on the way, behind its head. Definitions only; no promise rests on them.
use Rattle.std.specs.Prelude.{List, [], ℕ, ◌+◌}
use Rattle.datagram.specs.Limits.{max_datagram}
use Rattle.record_lines.specs.Streams.{Stream}
use Rattle.record_lines.specs.Lines.{Says, lines_after}
use Rattle.flight_log.specs.Entries.{entry_bytes}
use Rattle.log_write.specs.Kept.{entry_in}

-- no entry is longer
abbrev pub entry_limit : ℕ
entry_limit = 30 + max_datagram

-- each record as an entry, and nothing at the end
abbrev pub says : Says Unit
says = record { line = λ n s x. entry_bytes (entry_in x); after = λ s x. s; last = λ next n. [] }

abbrev pub entries_text : Stream → List ℕ
entries_text = lines_after says 0 tt
