-- Calls to an arrival, of `receive` and of `receive_within`: of each only its contract is known. Definitions only.
use Rattle.std.specs.Prelude.{◌≡◌, ℕ, min}
use Rattle.wire.specs.Choice.{pick}
use Rattle.datagram.specs.Limits.{max_fragments}
use Rattle.datagram.specs.Said.{said}
use Rattle.steps.specs.Receive.{Refused}
use Rattle.steps.specs.Receive.{After, stay, step_within}
use Rattle.steps.specs.Runs.{Arrival}
use Rattle.steps.specs.Answers.{answer_told}
use Rattle.receiver.specs.declared.Outcome.{Outcome}
use Rattle.receiver_state.specs.View.{view, shaped}
use Rattle.receiver.specs.Lent.{Lent}
use Rattle.receiver.specs.Calls.{Follows, Receives}

-- a call of `receive_within`, with limits of a payload and of its fragments: the step list's within them; a state or names of another length is refused by 9
abbrev pub received_within : ℕ → ℕ → Lent → Arrival → After
received_within payload fragments l x =
    pick (shaped l.state l.names)
    (step_within payload fragments (view l.state l.names) l.store l.ledger x.sender x.datagram)
    (stay (view l.state l.names) l.store l.ledger (Refused 9))

abbrev pub TakesWithin : ℕ → ℕ → Lent → Arrival → Outcome → Lent → Type 0
TakesWithin payload fragments l x r l' = Follows (received_within payload fragments l x) l x.sender x.datagram r l'

-- the limits let the datagram through: within them it says what it says without
abbrev pub LetThrough : ℕ → ℕ → Lent → Arrival → Type 0
LetThrough payload fragments l x =
    said (min (view l.state l.names).slot_size_lem payload) (min max_fragments fragments) x.datagram
    ≡ said (view l.state l.names).slot_size_lem max_fragments x.datagram

-- a call to that arrival with l lent: r is its outcome, and l' is what is lent afterwards
pub data Takes (l : Lent) (x : Arrival) (r : Outcome) (l' : Lent) : Type 0 where
  freely : Receives l x.sender x.datagram r l' → Takes l x r l'
  within : (payload fragments : ℕ) → LetThrough payload fragments l x → TakesWithin payload fragments l x r l' → Takes l x r l'

-- a call of `receive_within` that refuses, whatever came: it is no arrival
pub record TurnsAway (l : Lent) (r : Outcome) (l' : Lent) : Type 0 where
  pub payload : ℕ
  pub fragments : ℕ
  pub came : Arrival
  pub call : TakesWithin payload fragments l came r l'
  pub number : ℕ
  pub refuses : answer_told r.answer ≡ Refused number
