-- Receiving a log's datagrams: document 02, L10. "A log's limits bind beside the slot size, by 6 and 5": the step list, with the reader's limits the
-- smaller of the log's and the receiver's. Definitions only.
use Rattle.std.specs.Prelude.{List, ℕ, min, length}
use Rattle.wire.specs.Choice.{pick}
use Rattle.datagram.specs.Limits.{max_fragments}
use Rattle.datagram.specs.Read.{read_datagram_lem}
use Rattle.datagram.specs.Said.{says}
use Rattle.datagram.specs.Read.{Read}
use Rattle.steps.specs.Receive.{Refused}
use Rattle.steps.specs.Receive.{Machine, After, stay, sound, receive}
use Rattle.receiver_state.specs.View.{view, shaped}
use Rattle.receiver.specs.Lent.{Lent}
use Rattle.receiver.specs.Calls.{Follows}
use Rattle.receiver.specs.declared.Outcome.{Outcome}
use Rattle.flight_log.specs.declared.reader.Limits.{Limits}

-- the datagram reader of a receiver with slots of C bytes, within a log's limits
abbrev pub read_within_lem : Limits → ℕ → List ℕ → Read
read_within_lem l C d = read_datagram_lem (min C l.payload) (min max_fragments l.fragments) d

-- the call, as the step list's: refusal 9 comes first
unfoldable pub step_within : Limits → Machine → List ℕ → List ℕ → ℕ → List ℕ → After
step_within l m store ledger sender d =
    pick (sound m (length store) (length ledger))
    (receive m store ledger sender (says d (read_within_lem l m.slot_size_lem d)))
    (stay m store ledger (Refused 9))

unfoldable pub received_within : Limits → Lent → ℕ → List ℕ → After
received_within limits l sender d =
    let m = view l.state l.names in
    pick (shaped l.state l.names) (step_within limits m l.store l.ledger sender d) (stay m l.store l.ledger (Refused 9))

abbrev pub ReceivesWithin : Limits → Lent → ℕ → List ℕ → Outcome → Lent → Type 0
ReceivesWithin limits l sender d r l' = Follows (received_within limits l sender d) l sender d r l'
