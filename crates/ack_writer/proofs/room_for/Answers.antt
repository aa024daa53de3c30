-- Refusals 77 and 76. Assumes nothing.
use Rattle.wire.proofs.Basics.{sym}
use Rattle.ack_writer.proofs.Runs.{room-long, room-short, room-enough}
use Rattle.ack_writer.proofs.room_for.Goals as goal

pub returns-then-n-gt-MAX_BLOCKS : goal.returns-then-n-gt-MAX_BLOCKS
returns-then-n-gt-MAX_BLOCKS c =
    let a = c.args in
    sym (room-long a.n a.room c.if-n-gt-MAX_BLOCKS.true)

pub returns-then-room-n : goal.returns-then-room-n
returns-then-room-n c =
    let a = c.args in
    sym (room-short a.n a.room c.if-n-gt-MAX_BLOCKS.false c.if-room-n.true)

pub returns : goal.returns
returns c =
    let a = c.args in
    sym (room-enough a.n a.room c.if-n-gt-MAX_BLOCKS.false c.if-room-n.false)
