-- One more than the last number. Assumes nothing.
use Rattle.ack_writer.proofs.BlockOfRun.{follows-zero, follows-some}
use Rattle.ack_writer.proofs.follows.Goals as goal

pub returns-then-x-eq0 : goal.returns-then-x-eq0
returns-then-x-eq0 c =
    let a = c.args in
    follows-zero a.last a.x c.if-x-eq0.true

pub returns : goal.returns
returns c =
    let a = c.args in
    follows-some a.last a.x c.if-x-eq0.false
