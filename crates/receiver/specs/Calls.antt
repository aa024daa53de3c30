-- WHAT THE CALLS PROMISE, for every state, names, store, ledger, sender and datagram. Definitions only.
use Rattle.std.specs.Prelude.{Result, Ok, Err, ◌≡◌, List, ℕ, length}
use Rattle.std.proofs.Math.Option.{Option, none, some}
use Rattle.wire.specs.Choice.{pick}
use Rattle.refusals.specs.declared.Refusal.{Refusal}
use Rattle.refusals.specs.Numbers.{number_of}
use Rattle.steps.specs.Answers.{answer_told, reply, emptied_key}
use Rattle.steps.specs.Receive.{Refused, Machine, After, stay, step, forget, Forgot}
use Rattle.steps.specs.Runs.{Heard, heard, from}
use Rattle.receiver_state.specs.View.{view, shaped}
use Rattle.receiver.specs.Lent.{Lent}
use Rattle.receiver.specs.declared.Outcome.{Outcome}

-- what the other calls answer: done, or refused
abbrev pub Call : Type 0
Call = Result (Unit {0}) Refusal

-- the number of a refusal, or none
abbrev pub refusal_of : Call → Option ℕ
refusal_of (Ok u) = none
refusal_of (Err r) = some (number_of r)

-- a call of receive: the step list's; a state or names of another length is refused by 9
unfoldable pub received : Lent → ℕ → List ℕ → After
received l sender d =
    let m = view l.state l.names in
    pick (shaped l.state l.names) (step m l.store l.ledger sender d) (stay m l.store l.ledger (Refused 9))

-- the answer is that of a, and the lent memory shows what a leaves
pub record Leaves (a : After) (r : Outcome) (l : Lent) : Type 0 where
  pub answer : answer_told r.answer ≡ a.answer
  pub emptied : r.emptied ≡ a.emptied
  pub name : r.name ≡ a.name
  pub machine : view l.state l.names ≡ a.machine
  pub store : l.store ≡ a.store
  pub ledger : l.ledger ≡ a.ledger

-- what an outcome tells in the values of document 01, with the store as the call left it
abbrev pub told : List ℕ → List ℕ → Outcome → Heard
told d store r = record { answer = reply d store (answer_told r.answer); emptied = emptied_key r.emptied }

-- a call with l lent was the step a: r is its outcome, and l' is what is lent afterwards
pub record Follows (a : After) (l : Lent) (sender : ℕ) (d : List ℕ) (r : Outcome) (l' : Lent) : Type 0 where
  pub leaves : Leaves a r l'
  -- the reply, its payload included, and the emptied key
  pub tells : told d l'.store r ≡ heard (from sender d) a
  pub words : length l'.state ≡ length l.state
  pub bytes : length l'.names ≡ length l.names
  -- a refusal writes nothing
  pub still : (k : ℕ) → answer_told r.answer ≡ Refused k → l' ≡ l

abbrev pub Receives : Lent → ℕ → List ℕ → Outcome → Lent → Type 0
Receives l sender d r l' = Follows (received l sender d) l sender d r l'

-- the other calls: what machine is shown then, and whether it is refused
pub record Changes (m : Machine) (refusal : Option ℕ) (w n : List ℕ) (r : Call) (w' n' : List ℕ) : Type 0 where
  pub gave : refusal_of r ≡ refusal
  pub machine : view w' n' ≡ m
  pub words : length w' ≡ length w
  pub bytes : length n' ≡ length n
  -- a refusal writes nothing
  pub still : (k : ℕ) → refusal_of r ≡ some k → (w' ≡ w) × (n' ≡ n)

-- forget: the step list's; a state or names of another length is refused by 9
unfoldable pub forgotten : List ℕ → List ℕ → ℕ → Forgot
forgotten w n sender = pick (shaped w n) (forget (view w n) sender) (record { machine = view w n; refusal = some 9 })

abbrev pub Forgets : List ℕ → List ℕ → ℕ → Call → List ℕ → List ℕ → Type 0
Forgets w n sender r w' n' = Changes (forgotten w n sender).machine (forgotten w n sender).refusal w n r w' n'
