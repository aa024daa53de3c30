-- `log_append::append` meets its contract. Assumes nothing.
use Rattle.wire.proofs.Basics.{arith}
use Rattle.flight_log.specs.Entries.{entry_of}
use Rattle.log_append.proofs.Writing.{append-long, append-short, fits-at, append-good}
use Rattle.log_append.proofs.append.Goals as goal

pub returns-then-datagram-gt-MAX_DATAGRAM : goal.returns-then-datagram-gt-MAX_DATAGRAM
returns-then-datagram-gt-MAX_DATAGRAM c =
    let a = c.args in
    append-long a.out.now a.at (entry_of a.sender a.tick a.datagram.now) c.if-datagram-gt-MAX_DATAGRAM.true

pub returns-then-room-n : goal.returns-then-room-n
returns-then-room-n c =
    let a = c.args in
    append-short a.out.now a.at (entry_of a.sender a.tick a.datagram.now) c.if-datagram-gt-MAX_DATAGRAM.false (omega arith)

pub put_entry-requires : goal.put_entry-requires
put_entry-requires c =
    let a = c.args in
    fits-at a.out.now a.at (entry_of a.sender a.tick a.datagram.now) (omega arith)

pub returns : goal.returns
returns c =
    let a = c.args in
    append-good a.out.now a.at (entry_of a.sender a.tick a.datagram.now) c.entry_length-n.result _ c.if-datagram-gt-MAX_DATAGRAM.false c.entry_length-n.ensures (omega arith) c.put_entry.ensures
