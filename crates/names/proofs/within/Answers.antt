-- `names::within` meets its contract. Assumes nothing.
use Rattle.wire.proofs.Basics.{le-leb, lt-leb}
use Rattle.names.proofs.within.Goals as goal

pub returns-then-low-x : goal.returns-then-low-x
returns-then-low-x c = rw (le-leb _ _ c.if-low-x.true)

pub returns-else-low-x : goal.returns-else-low-x
returns-else-low-x c = rw (lt-leb _ _ c.if-low-x.false)
