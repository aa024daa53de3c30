-- The whole input: the buffer is filled, and where it is full one read more tells whether the input is longer. Assumes nothing.
use Rattle.wire.proofs.Basics.{rules}
use Rattle.stream.proofs.Held.{exceeds_full}
use Rattle.stream.proofs.read_all.Goals as goal

pub returns : goal.returns
returns c =
    exceeds_full c.fill-n.ensures c.if-n-most.false c.read_from-more.ensures (search rules)
