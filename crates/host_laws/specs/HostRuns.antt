-- What demand 3 gives for the C calls: `qm_open`, `qm_receive` and `qm_receive_within`, one after another, over lent memory that nobody else changes. Its proof is
-- `host-demand3` of proofs/HostDemand3. Definitions only.
use Rattle.std.specs.Prelude.{◌≡◌, List, [], map, ℕ, length}
use Rattle.receiver_state.specs.View.{view}
use Rattle.receiver.specs.Lent.{Lent, lent}
use Rattle.arrival.specs.Demand.{Scene, Event, Feed, start, ◌▹◌, bytes_of, arrival, Delivery, push, after, own, completed, delivery, deliveries, Supposed, Promised, answered}
use Rattle.host_state.specs.Calls.{OpenTold}
use Rattle.host_laws.specs.Told.{Returned, heard_told, hands_told}
use Rattle.host_laws.specs.Calls.{HostTakes, HostTurnsAway}

-- `qm_open` answered 0, and since then each arrival of the feed was a call with what the call before left: this is lent now. Calls that are no arrivals may stand
-- among them.
pub data HostCalls (σ : Scene) : Feed → Lent → Type 0 where
  opens : (w n w' n' : List ℕ) → OpenTold w n (length σ.store) 0 w' n' → HostCalls σ start (lent w' n' σ.store σ.ledger)
  calls : {f : Feed} {l : Lent} → HostCalls σ f l → (e : Event) (c : Returned) (l' : Lent) → HostTakes l (arrival σ e) c l' → HostCalls σ (f ▹ e) l'
  turns_away : {f : Feed} {l : Lent} → HostCalls σ f l → (l' : Lent) → HostTurnsAway l l' → HostCalls σ f l'

-- all that the calls handed over, by what each told and the store that it left, the latest first
abbrev pub handed_over : {σ : Scene} {f : Feed} {l : Lent} → HostCalls σ f l → List Delivery
handed_over (opens w n w' n' o) = []
handed_over {σ} (calls h e c l' k) = push (hands_told (arrival σ e) c l'.store) (handed_over h)
handed_over (turns_away h l' k) = handed_over h

-- each call to an arrival hands over what `step` hands over there, and is answered as that arrival is
abbrev pub EachCall : {σ : Scene} {f : Feed} {l : Lent} → HostCalls σ f l → Type 0
EachCall (opens w n w' n' o) = Unit {0}
EachCall {σ} (calls {f = f} h e c l' k) =
    EachCall h × (hands_told (arrival σ e) c l'.store ≡ delivery σ f e) × (heard_told (bytes_of σ e) l'.store c ≡ answered σ f e)
EachCall (turns_away h l' k) = EachCall h

pub record HostPromised (σ : Scene) (f : Feed) (l : Lent) (h : HostCalls σ f l) : Type 0 where
  pub machine : view l.state l.names ≡ (after σ f).machine
  pub store : l.store ≡ (after σ f).store
  pub ledger : l.ledger ≡ (after σ f).ledger
  pub each-call : EachCall h
  pub delivered : handed_over h ≡ deliveries σ f
  -- the messages' own keys, names and bytes, in order of completion
  pub their-own : handed_over h ≡ map (own σ) (completed σ f)
  pub promised : Promised σ f

-- ORDER OF ARRIVAL MUST NOT MATTER, FOR THE C CALLS
abbrev pub HostDemand3 : Type 0
HostDemand3 = (σ : Scene) (f : Feed) → Supposed σ f → (l : Lent) (h : HostCalls σ f l) → HostPromised σ f l h
