-- What a call of the open reader answers, and where the reader stands then. Definitions only.
use Rattle.std.specs.Prelude.{List, [], ℕ, zero, suc, length}
use Rattle.std.specs.Borrow.{Bor}
use Rattle.flight_log.specs.Listed.{Listed, whole, broken, after}
use Rattle.flight_log.specs.Said.{entry_said, read_at, place_after_lem}
use Rattle.flight_log.specs.Step.{Step}
use Rattle.flight_log.specs.Step.{Found, End, Refused}
use Rattle.log_reader.specs.declared.LogReader.{LogReader}

-- a reader of the lent bytes at a place
abbrev pub reader_at : Bor (List ℕ) → ℕ → LogReader
reader_at log at = record { log = log; at = at }

-- the step at its place
abbrev pub step_now : LogReader → Step
step_now r = read_at r.log.now r.at

-- the same bytes, at the place after it
abbrev pub onward : LogReader → LogReader
onward r = reader_at r.log (place_after_lem r.at (step_now r))

-- ---- reading on: `next` again and again, at most k times, and the datagram of each entry

abbrev pub listed : Listed → LogReader → Step → Listed
listed rest r (Found e) = after (entry_said r.log.now e) rest
listed rest r End = whole []
listed rest r (Refused n) = broken [] n

unfoldable pub reads_on : ℕ → LogReader → Listed
reads_on zero r = whole []
reads_on (suc k) r = listed (reads_on k (onward r)) r (step_now r)

-- from the open reader to its end: an entry takes a byte at least
unfoldable pub reads_all : Bor (List ℕ) → Listed
reads_all log = reads_on (suc (length log.now)) (reader_at log 0)
