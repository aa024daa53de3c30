-- `flight_log::reader::datagram_at` meets its contract. Assumes nothing.
use Rattle.wire.proofs.Basics.{sym, arith}
use Rattle.flight_log.proofs.Reading.{datagram-long, datagram-cut, datagram-found}
use Rattle.flight_log.proofs.reader.datagram_at.Goals as goal

pub returns-then-n : goal.returns-then-n
returns-then-n c =
    let a = c.args in
    sym (datagram-long a.log.now a.at a.sender a.tick a.n c.if-n.true)

pub returns-then-room-len : goal.returns-then-room-len
returns-then-room-len c =
    let a = c.args in
    sym (datagram-cut a.log.now a.at a.sender a.tick a.n c.if-n.false (omega arith))

pub returns : goal.returns
returns c =
    let a = c.args in
    sym (datagram-found a.log.now a.at a.sender a.tick a.n c.if-n.false c.requires (omega arith))
