-- Calls of `qm_receive` and `qm_receive_within`: of each only its contract is known. Definitions only.
use Rattle.std.specs.Prelude.{◌≡◌, true, false, ◌≤◌}
use Rattle.steps.specs.Runs.{Arrival}
use Rattle.receiver.specs.Lent.{Lent}
use Rattle.flight_log.specs.declared.reader.Limits.{Limits}
use Rattle.arrival.specs.ArrivalCalls.{LetThrough}
use Rattle.host_receiver.specs.Calls.{ReceiveTold, WithinTold}
use Rattle.host_laws.specs.Told.{Returned, lacks}

-- a call with that datagram of that sender and with l lent: it returned c, and l' is what is lent afterwards
abbrev pub HostReceives : Lent → Arrival → Returned → Lent → Type 0
HostReceives l x c l' = ReceiveTold l x.sender x.datagram c.told c.name c.answer l'

abbrev pub HostReceivesWithin : Limits → Lent → Arrival → Returned → Lent → Type 0
HostReceivesWithin limits l x c l' = WithinTold limits l x.sender x.datagram c.told c.name c.answer l'

-- a call to that arrival, with room for its outcome: of `qm_receive`, or of `qm_receive_within` with limits that let the datagram through
pub data HostTakes (l : Lent) (x : Arrival) (c : Returned) (l' : Lent) : Type 0 where
  freely : lacks c ≡ false → HostReceives l x c l' → HostTakes l x c l'
  within : lacks c ≡ false → (limits : Limits) → LetThrough limits.payload limits.fragments l x → HostReceivesWithin limits l x c l' → HostTakes l x c l'

-- a call that is no arrival, whatever came: there was no room for its outcome, or it was one of `qm_receive_within` and answered a refusal
pub data HostTurnsAway (l l' : Lent) : Type 0 where
  no_room : (x : Arrival) (c : Returned) → lacks c ≡ true → HostReceives l x c l' → HostTurnsAway l l'
  refused : (limits : Limits) (x : Arrival) (c : Returned) → 1 ≤ c.answer → HostReceivesWithin limits l x c l' → HostTurnsAway l l'
