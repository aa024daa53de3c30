-- What the reader answers, and each answer in the paper's values. Definitions only.
use Rattle.std.specs.Prelude.{List, [], ◌∷◌, ℕ, zero, suc, ◌-◌, eqb, length, take, drop}
use Rattle.wire.specs.Choice.{pick}
use Rattle.wire.specs.Taken.{Taken, taken, refused}
use Rattle.flight_log.specs.Editions.{Edition, head_in, limits_of}
use Rattle.flight_log.specs.Entries.{Entry, entry_of}
use Rattle.flight_log.specs.Listed.{entry_in, Listed, whole, broken, after}
use Rattle.flight_log.specs.declared.reader.EntryAt.{EntryAt}
use Rattle.flight_log.specs.First.{First}
use Rattle.flight_log.specs.First as first
use Rattle.flight_log.specs.Step.{Step}
use Rattle.flight_log.specs.Step.{Found, End, Refused}

-- ---- the head: where the first entry begins, and the log's limits

abbrev pub first_of : List ℕ → Taken Edition → First
first_of log (taken v b) = first.At (length log - length b) (limits_of v)
first_of log (refused n) = first.Refused n

abbrev pub first_in : List ℕ → First
first_in log = first_of log (head_in log)

-- ---- the entry at a place: its numbers, where its datagram lies and how long it is, and the place after it

-- with the rest of the log after it
abbrev pub entry_at : List ℕ → Entry → List ℕ → EntryAt
entry_at log e b = record {
  sender = e.sender;
  tick = e.tick;
  at = length log - length b - length e.datagram;
  len = length e.datagram;
  next = length log - length b;
}

abbrev pub step_of : List ℕ → Taken Entry → Step
step_of log (taken e b) = Found (entry_at log e b)
step_of log (refused n) = Refused n

-- no bytes are the end
abbrev pub step_in : List ℕ → List ℕ → Step
step_in log [] = End
step_in log (x ∷ b) = step_of log (entry_in (x ∷ b))

unfoldable pub next_at : List ℕ → ℕ → Step
next_at log at = step_in log (drop at log)

-- ---- the paper's values: the entry and the bytes after it, the end, or the refusal's number

pub data Said : Type 0 where
  entry : Entry → List ℕ → Said
  ended : Said
  number : ℕ → Said

abbrev pub entry_said : List ℕ → EntryAt → Entry
entry_said log e = entry_of e.sender e.tick (take e.len (drop e.at log))

abbrev pub says : List ℕ → Step → Said
says log (Found e) = entry (entry_said log e) (drop e.next log)
says log End = ended
says log (Refused n) = number n

-- what is to be said of the bytes from a place on
abbrev pub said_of : Taken Entry → Said
said_of (taken e b) = entry e b
said_of (refused n) = number n

abbrev pub said_in : List ℕ → Said
said_in [] = ended
said_in (x ∷ b) = said_of (entry_in (x ∷ b))

-- ---- the open reader: its place is 0 until the head was judged, and stays where the log ended or was refused

abbrev pub from_first : List ℕ → First → Step
from_first log (first.At at limits) = next_at log at
from_first log (first.Refused n) = Refused n

unfoldable pub read_at : List ℕ → ℕ → Step
read_at log at = pick (eqb at 0) (from_first log (first_in log)) (next_at log at)

abbrev pub place_after_lem : ℕ → Step → ℕ
place_after_lem at (Found e) = e.next
place_after_lem at End = at
place_after_lem at (Refused n) = at

-- reading on from a place, at most k entries
abbrev pub onward : (ℕ → Listed) → List ℕ → Step → Listed
onward rest log (Found e) = after (entry_said log e) (rest e.next)
onward rest log End = whole []
onward rest log (Refused n) = broken [] n

unfoldable pub read_on : ℕ → List ℕ → ℕ → Listed
read_on zero log at = whole []
read_on (suc k) log at = onward (read_on k log) log (read_at log at)

-- from the open reader to its end: the head, and an entry takes a byte at least
unfoldable pub read_all : List ℕ → Listed
read_all log = read_on (suc (length log)) log 0
