-- A call of `receive_within` whose limits let the datagram through is a call of `receive`; one that refuses leaves all as it was.
use Rattle.wire.proofs.Basics.{◌≡◌, ap, subst, ℕ}
use Rattle.wire.specs.Choice.{pick}
use Rattle.steps.specs.Receive.{Refused}
use Rattle.steps.specs.Receive.{After, stay}
use Rattle.steps.specs.Runs.{Arrival}
use Rattle.steps.proofs.Limited.{let_through_lem}
use Rattle.receiver.specs.declared.Outcome.{Outcome}
use Rattle.receiver_state.specs.View.{view, shaped}
use Rattle.receiver.specs.Lent.{Lent}
use Rattle.receiver.specs.Calls.{received, Follows, Receives}
use Rattle.arrival.specs.ArrivalCalls.{received_within, LetThrough, Takes, freely, within, TurnsAway}

module _ (l : Lent) (x : Arrival) where
  received-same : (payload fragments : ℕ) → LetThrough payload fragments l x → received_within payload fragments l x ≡ received l x.sender x.datagram
  unfolding received
  received-same payload fragments t =
      ap (λ (a : After). pick (shaped l.state l.names) a (stay (view l.state l.names) l.store l.ledger (Refused 9)))
      (let_through_lem payload fragments (view l.state l.names) l.store l.ledger x.sender x.datagram t)

  pub takes-are : {r : Outcome} {l' : Lent} → Takes l x r l' → Receives l x.sender x.datagram r l'
  takes-are (freely k) = k
  takes-are {r} {l'} (within payload fragments t k) = subst (λ (a : After). Follows a l x.sender x.datagram r l') (received-same payload fragments t) k

pub turned_same : (l : Lent) (r : Outcome) (l' : Lent) → TurnsAway l r l' → l' ≡ l
turned_same l r l' k = k.call.still k.number k.refuses
