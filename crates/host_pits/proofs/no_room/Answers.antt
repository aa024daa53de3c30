-- One after another. Assumes nothing.
use Rattle.wire.proofs.Basics.{le-ltb, lt-ltb}
use Rattle.host_pits.proofs.no_room.Goals as goal

pub returns-then-tile-n : goal.returns-then-tile-n
returns-then-tile-n c = rw (lt-ltb _ _ c.if-tile-n.true)

pub returns-then-pit-n : goal.returns-then-pit-n
returns-then-pit-n c = rw (le-ltb _ _ c.if-tile-n.false, lt-ltb _ _ c.if-pit-n.true)

pub returns : goal.returns
returns c = rw (le-ltb _ _ c.if-tile-n.false, le-ltb _ _ c.if-pit-n.false)
