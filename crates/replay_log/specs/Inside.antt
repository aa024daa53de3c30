-- INSIDE: what a receiver works in, and that it stays as long as it was. Definitions only; no promise rests on them.
use Rattle.std.specs.Prelude.{◌≡◌, length}
use Rattle.receiver.specs.Lent.{Lent, lent}
use Rattle.replay_log.specs.declared.Replay.{Replay}

abbrev pub lent_in : Replay → Lent
lent_in r = lent r.state.now r.names.now r.store.now r.ledger.now

-- the limits, and the lengths of the state and the names
pub record Stays (r r' : Replay) : Type 0 where
  pub limits : r'.limits ≡ r.limits
  pub state : length r'.state.now ≡ length r.state.now
  pub names : length r'.names.now ≡ length r.names.now
