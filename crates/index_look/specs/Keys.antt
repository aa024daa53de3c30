-- Whether the entry at a place of a log has a key: "the entry at the place is looked at before it is believed". Definitions only.
use Rattle.std.specs.Prelude.{Bool, true, false, ◌&&◌, List, ℕ, zero, suc, eqb, take, drop}
use Rattle.datagram.specs.Read.{read_datagram_lem}
use Rattle.datagram.specs.Read.{Read}
use Rattle.datagram.specs.Read as read
use Rattle.flight_log.specs.Said.{first_in, next_at}
use Rattle.flight_log.specs.First.{First}
use Rattle.flight_log.specs.First as first
use Rattle.flight_log.specs.declared.reader.Limits.{Limits}
use Rattle.flight_log.specs.Step.{Step}
use Rattle.flight_log.specs.Step as step
use Rattle.log_index.specs.Rows.{Row}

-- what the datagram reader accepts has a sequence
abbrev pub sequence_is_lem : ℕ → Read → Bool
sequence_is_lem q (read.Good h) = eqb h.sequence q
sequence_is_lem q (read.Refused n) = false

-- an entry within a log's limits; at the end, and where the log is refused, there is none
abbrev pub entry_has : List ℕ → Limits → ℕ → ℕ → Step → Bool
entry_has log m s q (step.Found e) = eqb e.sender s && sequence_is_lem q (read_datagram_lem m.payload m.fragments (take e.len (drop e.at log)))
entry_has log m s q step.End = false
entry_has log m s q (step.Refused n) = false

-- a log that is refused at its head has no entries
abbrev pub behind_head : List ℕ → ℕ → ℕ → ℕ → First → Bool
behind_head log place s q (first.At at m) = entry_has log m s q (next_at log place)
behind_head log place s q (first.Refused n) = false

unfoldable pub has_key : List ℕ → ℕ → ℕ → ℕ → Bool
has_key log place s q = behind_head log place s q (first_in log)

-- a row leads to an entry of its own key
abbrev pub leads : List ℕ → Row → Bool
leads log r = has_key log r.place r.sender r.sequence

-- the first and the last of n rows do
abbrev pub ends_lead_lem : List ℕ → (ℕ → Row) → ℕ → Bool
ends_lead_lem log row zero = true
ends_lead_lem log row (suc n) = leads log (row 0) && leads log (row n)
