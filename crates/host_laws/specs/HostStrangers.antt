-- What the promise with strangers about gives for the C calls: `qm_open`, `qm_receive`, `qm_receive_within` and `qm_forget`, of which only the contracts are known.
-- Its proof is `host-strangers` of proofs/HostStrangers. Definitions only.
use Rattle.std.specs.Prelude.{◌≡◌, true, false, List, ℕ, ◌<◌}
use Rattle.std.proofs.Math.Option.{some}
use Rattle.steps.specs.Runs.{Arrival}
use Rattle.steps.specs.Reach.{is_open}
use Rattle.receiver_state.specs.View.{view}
use Rattle.receiver.specs.Lent.{Lent, lent}
use Rattle.flight_log.specs.declared.reader.Limits.{Limits}
use Rattle.arrival.specs.Demand.{Message, InFragments, key, parts}
use Rattle.arrival.specs.Strangers.{part, Feed, begun, ◌▹◌, comes, forgets, complete, Supposed, its}
use Rattle.arrival.specs.StrangersRuns.{start_of}
use Rattle.host_state.specs.Calls.{OpenTold, ForgetTold}
use Rattle.host_laws.specs.Told.{Returned, accepted_told, hands_told}
use Rattle.host_laws.specs.Calls.{HostReceives, HostReceivesWithin, HostTakes, HostTurnsAway}

-- the state and the names that calls lead to, with whatever store and ledger is lent to each, and with room for an outcome or without: `qm_open` answered 0, then any calls
pub data HostLed (n : ℕ) : List ℕ → List ℕ → Type 0 where
  by-open : (w nm w' nm' : List ℕ) → OpenTold w nm n 0 w' nm' → HostLed n w' nm'
  by-receive : {w nm : List ℕ} → HostLed n w nm → (store ledger : List ℕ) (x : Arrival) (c : Returned) (l' : Lent)
      → HostReceives (lent w nm store ledger) x c l' → HostLed n l'.state l'.names
  by-within : {w nm : List ℕ} → HostLed n w nm → (limits : Limits) (store ledger : List ℕ) (x : Arrival) (c : Returned) (l' : Lent)
      → HostReceivesWithin limits (lent w nm store ledger) x c l' → HostLed n l'.state l'.names
  by-forget : {w nm : List ℕ} → HostLed n w nm → (sender answer : ℕ) (w' nm' : List ℕ) → ForgetTold w nm sender answer w' nm' → HostLed n w' nm'

-- Since its first fragment left l₁, each event of the feed was a call with what the call before left: this is lent now. Calls that are no arrivals may stand among them.
pub data HostCalls (l₁ : Lent) : Feed → Lent → Type 0 where
  begins : HostCalls l₁ begun l₁
  takes : {f : Feed} {l : Lent} → HostCalls l₁ f l → (x : Arrival) (c : Returned) (l' : Lent) → HostTakes l x c l' → HostCalls l₁ (f ▹ comes x) l'
  drops : {f : Feed} {l : Lent} → HostCalls l₁ f l → (sender answer : ℕ) (w nm : List ℕ) → ForgetTold l.state l.names sender answer w nm
      → HostCalls l₁ (f ▹ forgets sender) (lent w nm l.store l.ledger)
  turns_away : {f : Feed} {l : Lent} → HostCalls l₁ f l → (l' : Lent) → HostTurnsAway l l' → HostCalls l₁ f l'

-- its first fragment finds l₀, and the call to it returns c₀ and leaves l₁
pub record HostBegins (m : Message) (l₀ : Lent) (k₀ : ℕ) (c₀ : Returned) (l₁ : Lent) : Type 0 where
  pub opened-over : ℕ
  pub led : HostLed opened-over l₀.state l₀.names
  pub lawful : InFragments m
  pub its_own : k₀ < parts m
  pub not-open : is_open (view l₀.state l₀.names) (key m) ≡ false
  pub taken : HostTakes l₀ (part m k₀) c₀ l₁
  pub accepted : accepted_told c₀ ≡ true

pub record HostPromised (m : Message) (l₀ : Lent) (k₀ : ℕ) (c₀ : Returned) (l₁ : Lent) : Type 0 where
  pub at_once : complete (start_of m l₀ k₀) begun ≡ true → hands_told (part m k₀) c₀ l₁.store ≡ some (its m)
  pub at_last : (f : Feed) (l : Lent) → HostCalls l₁ f l → Supposed (start_of m l₀ k₀) f → (x : Arrival) (c : Returned) (l' : Lent) → HostTakes l x c l'
      → complete (start_of m l₀ k₀) (f ▹ comes x) ≡ true → hands_told x c l'.store ≡ some (its m)

-- A PROMISE WITH STRANGERS ABOUT, FOR THE C CALLS
abbrev pub HostStrangers : Type 0
HostStrangers = (m : Message) (l₀ : Lent) (k₀ : ℕ) (c₀ : Returned) (l₁ : Lent) → HostBegins m l₀ k₀ c₀ l₁ → HostPromised m l₀ k₀ c₀ l₁
