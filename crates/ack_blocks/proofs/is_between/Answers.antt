-- First to last, both of them. Assumes nothing.
use Rattle.wire.proofs.Basics.{le-leb, lt-leb}
use Rattle.ack_blocks.proofs.is_between.Goals as goal

pub returns-then-n-first : goal.returns-then-n-first
returns-then-n-first c =
    let a = c.args in
    rw (lt-leb a.first a.n c.if-n-first.true)

pub returns : goal.returns
returns c =
    let a = c.args in
    rw (le-leb a.first a.n c.if-n-first.false)
