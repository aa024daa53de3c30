-- A record's body. Assumes nothing.
use Rattle.wire.proofs.Basics.{sym}
use Rattle.std.proofs.Common.{Some, None}
use Rattle.stream.proofs.Taking.{body-lacks, body_dropped}
use Rattle.stream.proofs.take_body.Goals as goal

pub returns-then-end-at : goal.returns-then-end-at
returns-then-end-at c =
    body-lacks c.requires c.head_of-head.result c.min-len.result (sym c.head_of-head.ensures) c.ready-two.new.buf c.ready-two.result c.min-len.ensures c.ready-two.ensures c.if-end-at.true

pub returns-in_default : goal.returns-in_default
returns-in_default c =
    body_dropped c.requires c.head_of-head.result c.min-len.result (sym c.head_of-head.ensures) c.ready-two.new.buf c.ready-two.result None c.drop_after.new.buf c.min-len.ensures c.ready-two.ensures c.if-end-at.false c.in_default.ensures

pub returns : goal.returns
returns c =
    body_dropped c.requires c.head_of-head.result c.min-len.result (sym c.head_of-head.ensures) c.ready-two.new.buf c.ready-two.result (Some c.in-Some.rest) c.drop_after.new.buf c.min-len.ensures c.ready-two.ensures c.if-end-at.false c.in-Some.ensures
