-- WHAT IS LENT TO A RECEIVER: the words of its state, the bytes of its names, the store and the ledger. Definitions only.
use Rattle.std.specs.Prelude.{List, ℕ}
use Rattle.wire.specs.Slices.{Slice}
use Rattle.steps.specs.Runs.{World, lending}
use Rattle.receiver_state.specs.View.{view}

pub record Lent : Type 0 where
  pub state : List ℕ
  pub names : List ℕ
  pub store : List ℕ
  pub ledger : List ℕ

abbrev pub lent : List ℕ → List ℕ → List ℕ → List ℕ → Lent
lent state names store ledger = record { state = state; names = names; store = store; ledger = ledger }

-- what the four show, as the step list has it
abbrev pub world_in : Lent → World
world_in l = lending (view l.state l.names) l.store l.ledger

-- what the four held before a call, and what they hold after it
abbrev pub lent_before : Slice → Slice → Slice → Slice → Lent
lent_before state names store ledger = lent state.entry.now names.entry.now store.entry.now ledger.entry.now

abbrev pub lent_after : Slice → Slice → Slice → Slice → Lent
lent_after state names store ledger = lent state.exit.now names.exit.now store.exit.now ledger.exit.now
