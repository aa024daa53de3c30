-- What the promise with strangers about gives for the code: calls of `open`, `receive`, `receive_within` and `forget`, of which only the contracts are known.
-- Definitions only.
use Rattle.std.specs.Prelude.{◌≡◌, true, false, List, ℕ, ◌<◌}
use Rattle.std.proofs.Math.Option.{Option, none, some}
use Rattle.steps.specs.Runs.{Arrival}
use Rattle.steps.specs.Reach.{is_open, is_accepted}
use Rattle.steps.specs.Answers.{answer_told}
use Rattle.receiver.specs.declared.Outcome.{Outcome}
use Rattle.receiver.specs.Calls.{Call}
use Rattle.receiver_state.specs.View.{view}
use Rattle.receiver.specs.Lent.{Lent, lent, world_in}
use Rattle.receiver.specs.Calls.{refusal_of, Receives, Forgets}
use Rattle.open_and_payload.specs.Ends.{Opens}
use Rattle.arrival.specs.Demand.{Message, InFragments, key, parts, Delivery}
use Rattle.arrival.specs.ArrivalCalls.{TakesWithin, Takes, TurnsAway}
use Rattle.arrival.specs.Runs.{hands_over}
use Rattle.arrival.specs.Strangers.{Start, part, Feed, begun, ◌▹◌, comes, forgets, complete, Supposed, its}

-- the state and the names that calls lead to, with whatever store and ledger is lent to each: `open` was not refused, then any calls of `receive`,
-- `receive_within` and `forget`
pub data Led (n : ℕ) : List ℕ → List ℕ → Type 0 where
  by-open : (w nm : List ℕ) (r : Call) (w' nm' : List ℕ) → Opens w nm n r w' nm' → refusal_of r ≡ none → Led n w' nm'
  by-receive : {w nm : List ℕ} → Led n w nm → (store ledger : List ℕ) (sender : ℕ) (d : List ℕ) (r : Outcome) (l' : Lent)
      → Receives (lent w nm store ledger) sender d r l' → Led n l'.state l'.names
  by-within : {w nm : List ℕ} → Led n w nm → (payload fragments : ℕ) (store ledger : List ℕ) (x : Arrival) (r : Outcome) (l' : Lent)
      → TakesWithin payload fragments (lent w nm store ledger) x r l' → Led n l'.state l'.names
  by-forget : {w nm : List ℕ} → Led n w nm → (sender : ℕ) (r : Call) (w' nm' : List ℕ) → Forgets w nm sender r w' nm' → Led n w' nm'

-- the message, what is lent when its first fragment comes, and that fragment's number
abbrev pub start_of : Message → Lent → ℕ → Start
start_of m l k = record { message = m; world = world_in l; first = k }

-- Since its first fragment left l₁, each event of the feed was a call with what the call before left: this is lent now. Calls of `receive_within` that refuse may
-- stand among them.
pub data Calls (l₁ : Lent) : Feed → Lent → Type 0 where
  begins : Calls l₁ begun l₁
  takes : {f : Feed} {l : Lent} → Calls l₁ f l → (x : Arrival) (r : Outcome) (l' : Lent) → Takes l x r l' → Calls l₁ (f ▹ comes x) l'
  drops : {f : Feed} {l : Lent} → Calls l₁ f l → (sender : ℕ) (r : Call) (w nm : List ℕ) → Forgets l.state l.names sender r w nm
      → Calls l₁ (f ▹ forgets sender) (lent w nm l.store l.ledger)
  turns_away : {f : Feed} {l : Lent} → Calls l₁ f l → (r : Outcome) (l' : Lent) → TurnsAway l r l' → Calls l₁ f l'

-- what the call handed over, by its outcome and the store that it left
abbrev pub hands : Lent → Arrival → Outcome → Lent → Option Delivery
hands l x r l' = hands_over (view l.state l.names).slot_size_lem x r l'.store

-- its first fragment finds l₀, and is answered r₀ and leaves l₁
pub record CodeBegins (m : Message) (l₀ : Lent) (k₀ : ℕ) (r₀ : Outcome) (l₁ : Lent) : Type 0 where
  pub opened-over : ℕ
  pub led : Led opened-over l₀.state l₀.names
  pub lawful : InFragments m
  pub its_own : k₀ < parts m
  pub not-open : is_open (view l₀.state l₀.names) (key m) ≡ false
  pub taken : Takes l₀ (part m k₀) r₀ l₁
  pub accepted : is_accepted (answer_told r₀.answer) ≡ true

pub record CodePromised (m : Message) (l₀ : Lent) (k₀ : ℕ) (r₀ : Outcome) (l₁ : Lent) : Type 0 where
  pub at_once : complete (start_of m l₀ k₀) begun ≡ true → hands l₀ (part m k₀) r₀ l₁ ≡ some (its m)
  pub at_last : (f : Feed) (l : Lent) → Calls l₁ f l → Supposed (start_of m l₀ k₀) f → (x : Arrival) (r : Outcome) (l' : Lent) → Takes l x r l'
      → complete (start_of m l₀ k₀) (f ▹ comes x) ≡ true → hands l x r l' ≡ some (its m)

-- A PROMISE WITH STRANGERS ABOUT, FOR THE CODE
abbrev pub CodeStrangers : Type 0
CodeStrangers = (m : Message) (l₀ : Lent) (k₀ : ℕ) (r₀ : Outcome) (l₁ : Lent) → CodeBegins m l₀ k₀ r₀ l₁ → CodePromised m l₀ k₀ r₀ l₁
