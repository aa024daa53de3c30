-- What demand 3 gives for the code: calls of `open`, `receive` and `receive_within`, one after another, over lent memory that nobody else changes. Definitions only.
use Rattle.std.specs.Prelude.{◌≡◌, List, [], map, ℕ, length}
use Rattle.std.proofs.Math.Option.{Option, none}
use Rattle.steps.specs.Answers.{answer_told, reply}
use Rattle.steps.specs.Runs.{Arrival, key_in}
use Rattle.receiver.specs.declared.Outcome.{Outcome}
use Rattle.receiver.specs.Calls.{Call}
use Rattle.receiver_state.specs.View.{view}
use Rattle.receiver.specs.Lent.{Lent, lent}
use Rattle.receiver.specs.Calls.{refusal_of, told}
use Rattle.open_and_payload.specs.Ends.{Opens}
use Rattle.arrival.specs.ArrivalCalls.{Takes, TurnsAway}
use Rattle.arrival.specs.Demand.{Scene, slot_bytes, Event, Feed, start, ◌▹◌, bytes_of, arrival, Delivery, name_in, handed_by, push, after, own, completed, delivery, deliveries, Promised, answered}

-- `open` was not refused, and since then each arrival of the feed was a call of `receive`, or of `receive_within` with limits that let it through, with what the
-- call before left: this is lent now. Calls of `receive_within` that refuse may stand among them. Of each call only its contract is known.
pub data Calls (σ : Scene) : Feed → Lent → Type 0 where
  opens : (w n : List ℕ) (r : Call) (w' n' : List ℕ) → Opens w n (length σ.store) r w' n' → refusal_of r ≡ none
      → Calls σ start (lent w' n' σ.store σ.ledger)
  calls : {f : Feed} {l : Lent} → Calls σ f l → (e : Event) (r : Outcome) (l' : Lent)
      → Takes l (arrival σ e) r l'
      → Calls σ (f ▹ e) l'
  turns_away : {f : Feed} {l : Lent} → Calls σ f l → (r : Outcome) (l' : Lent) → TurnsAway l r l' → Calls σ f l'

-- what a call handed over to that arrival, with slots of C bytes, by its outcome and the store that it left
abbrev pub hands_over : ℕ → Arrival → Outcome → List ℕ → Option Delivery
hands_over C x r store = handed_by (key_in C x) (name_in r.name) (reply x.datagram store (answer_told r.answer))

-- all that the calls handed over, the latest first
abbrev pub handed_over : {σ : Scene} {f : Feed} {l : Lent} → Calls σ f l → List Delivery
handed_over (opens w n r w' n' o q) = []
handed_over {σ} (calls c e r l' k) = push (hands_over (slot_bytes σ) (arrival σ e) r l'.store) (handed_over c)
handed_over (turns_away c r l' k) = handed_over c

-- each call to an arrival hands over what `step` hands over there, and is answered as that arrival is: so it empties no key
abbrev pub EachCall : {σ : Scene} {f : Feed} {l : Lent} → Calls σ f l → Type 0
EachCall (opens w n r w' n' o q) = Unit {0}
EachCall {σ} (calls {f = f} c e r l' k) =
    EachCall c × (hands_over (slot_bytes σ) (arrival σ e) r l'.store ≡ delivery σ f e) × (told (bytes_of σ e) l'.store r ≡ answered σ f e)
EachCall (turns_away c r l' k) = EachCall c

-- a run of calls is a run of `step`, so that what is promised of the one is promised of the other
pub record CodePromised (σ : Scene) (f : Feed) (l : Lent) (c : Calls σ f l) : Type 0 where
  pub machine : view l.state l.names ≡ (after σ f).machine
  pub store : l.store ≡ (after σ f).store
  pub ledger : l.ledger ≡ (after σ f).ledger
  pub each-call : EachCall c
  pub delivered : handed_over c ≡ deliveries σ f
  -- the messages' own keys, names and bytes, in order of completion
  pub their-own : handed_over c ≡ map (own σ) (completed σ f)
  pub promised : Promised σ f
