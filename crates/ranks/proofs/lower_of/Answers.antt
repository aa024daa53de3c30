-- `ranks::lower_of` meets its contract. Assumes nothing.
use Rattle.wire.proofs.Basics.{le-ltb, lt-ltb}
use Rattle.ranks.proofs.lower_of.Goals as goal

pub returns-then-rank-low : goal.returns-then-rank-low
returns-then-rank-low c = simp (lt-ltb _ _ c.if-rank-low.true)

pub returns-else-rank-low : goal.returns-else-rank-low
returns-else-rank-low c = simp (le-ltb _ _ c.if-rank-low.false)
