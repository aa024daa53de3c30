-- The log of a stream's records, and how an entry goes out behind what is not written out yet. Definitions only.
use Rattle.std.specs.Prelude.{List, [], ◌∷◌, ℕ, ◌≤◌, length, drop}
use Rattle.wire.specs.Bytes.{be}
use Rattle.datagram.specs.Limits.{max_payload, max_datagram}
use Rattle.output.specs.Output.{Pours}
use Rattle.record_lines.specs.Streams.{Rec, Stream, ended, cut, also}
use Rattle.flight_log.specs.Editions.{edition2}
use Rattle.flight_log.specs.Entries.{Entry, entry_of, entry_bytes, log_of}

-- of any entry that a log takes
abbrev pub Keeps : List ℕ → ℕ → Entry → List ℕ → ℕ → Type 0
Keeps before at e after r = length e.datagram ≤ max_datagram → Pours before at (entry_bytes e) after r

-- a record: an 8-byte sender and an 8-byte tick in its head, and the datagram
abbrev pub entry_in : Rec → Entry
entry_in x = entry_of (be 8 x.head) (be 8 (drop 8 x.head)) x.body

-- of all whole records, however the input ended
abbrev pub entries_of : Stream → List Entry
entries_of ended = []
entries_of cut = []
entries_of (also x xs) = entry_in x ∷ entries_of xs

-- the log, of edition 2 with the largest limit
abbrev pub log_text : Stream → List ℕ
log_text xs = log_of (edition2 max_payload) (entries_of xs)
