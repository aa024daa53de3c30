-- `held_bits::is_held` meets its contract. Assumes nothing.
use Rattle.steps.specs.Held.{is_held}
use Rattle.held_bits.proofs.is_held.Goals as goal

pub returns : goal.returns
unfolding is_held
returns c = rw c.word-w.ensures
