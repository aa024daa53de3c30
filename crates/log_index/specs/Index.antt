-- The index of a log, worked out afresh: document 02, L11. "For each entry the datagram reader accepts within the log's limits", a row; sorted.
-- Definitions only.
use Rattle.std.specs.Prelude.{Bool, ◌||◌, List, [], ◌∷◌, ◌++◌, ℕ, ◌+◌, ◌-◌, ◌*◌, ltb, length, drop}
use Rattle.std.proofs.Math.Option.{Option, none}
use Rattle.wire.specs.Choice.{pick}
use Rattle.wire.specs.Taken.{Taken, taken, refused}
use Rattle.datagram.specs.Read.{read_datagram_lem}
use Rattle.datagram.specs.Read.{Read}
use Rattle.datagram.specs.Read.{Good, Refused}
use Rattle.flight_log.specs.Editions.{Edition, head_in, limits_of}
use Rattle.flight_log.specs.Entries.{Entry, entry_bytes}
use Rattle.flight_log.specs.Listed.{Listed, whole, broken, list_by}
use Rattle.flight_log.specs.declared.reader.Limits.{Limits}
use Rattle.log_index.specs.Limits.{max_index}
use Rattle.log_index.specs.Rows.{Row, row_of, first_of}

-- ---- rows in the log's order

-- of a datagram: none where the reader stopped it
abbrev pub row_for : ℕ → ℕ → Read → List Row
row_for sender at (Good h) = row_of sender h.sequence at ∷ []
row_for sender at (Refused n) = []

-- of the entry at a place
unfoldable pub entry_row : Limits → ℕ → Entry → List Row
entry_row m at e = row_for e.sender at (read_datagram_lem m.payload m.fragments e.datagram)

-- of entries of which the first is at a place: each begins where the one before ends
unfoldable pub rows_of : Limits → ℕ → List Entry → List Row
rows_of m at [] = []
rows_of m at (e ∷ es) = entry_row m at e ++ rows_of m (at + length (entry_bytes e)) es

-- the rows, or the log's own refusal
pub data Gathered : Type 0 where
  gathered : List Row → Gathered
  stopped : ℕ → Gathered

abbrev pub rows_to : Limits → ℕ → Listed → Gathered
rows_to m at (whole es) = gathered (rows_of m at es)
rows_to m at (broken es n) = stopped n

-- of the entries from a place of the log on
unfoldable pub rows_from : Limits → List ℕ → ℕ → Gathered
rows_from m log at = rows_to m at (list_by (length (drop at log)) (drop at log))

-- behind the head
abbrev pub rows_behind : List ℕ → Taken Edition → Gathered
rows_behind log (taken v b) = rows_from (limits_of v) log (length log - length b)
rows_behind log (refused n) = stopped n

-- of the whole log
unfoldable pub rows_in : List ℕ → Gathered
rows_in log = rows_behind log (head_in log)

-- where the head is refused, nothing from a place on is read
abbrev pub rows_after : List ℕ → ℕ → Taken Edition → Gathered
rows_after log at (taken v b) = rows_from (limits_of v) log at
rows_after log at (refused n) = stopped n

unfoldable pub rows_added : List ℕ → ℕ → Gathered
rows_added log at = rows_after log at (head_in log)

-- ---- the first entry of a key: its place, or none where no accepted entry has it

abbrev pub first_to : ℕ → ℕ → Gathered → Option ℕ
first_to s q (gathered rs) = first_of s q rs
first_to s q (stopped n) = none

abbrev pub first_entry_lem : List ℕ → ℕ → ℕ → Option ℕ
first_entry_lem log s q = first_to s q (rows_in log)

-- ---- how many rows there are then, or the refusal

pub data Answer : Type 0 where
  holds : ℕ → Answer
  refuses : ℕ → Answer

-- over the most rows that are asked for, or more than the lent list has words for
abbrev pub no_room_in : ℕ → ℕ → ℕ → Bool
no_room_in most words n = ltb most n || ltb words (3 * n)

-- 44 after the log's own; with n rows in the index before
unfoldable pub answer_in : ℕ → ℕ → ℕ → Gathered → Answer
answer_in most words n (stopped k) = refuses k
answer_in most words n (gathered rs) = pick (no_room_in most words (n + length rs)) (refuses 44) (holds (n + length rs))

-- L11: "44 index full", over 4,096 rows
abbrev pub answer_of : ℕ → ℕ → Gathered → Answer
answer_of words n g = answer_in max_index words n g
