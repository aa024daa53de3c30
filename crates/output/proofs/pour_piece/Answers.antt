-- At most a piece of bytes in hexadecimal: they fill no more than a line. Assumes nothing.
use Rattle.wire.proofs.Basics.{arith}
use Rattle.output.proofs.Sending.{pours-put, length-hex}
use Rattle.output.proofs.pour_piece.Goals as goal

pub returns-then-room-ge-LINE : goal.returns-then-room-ge-LINE
returns-then-room-ge-LINE c =
    pours-put (omega (arith, c.if-room-ge-LINE.true, c.room.ensures, length-hex c.args.bytes.now, c.requires)) c.put_hex.ensures

pub returns : goal.returns
returns c = c.piece_apart.ensures
