-- A number in decimal: it is short. Assumes nothing.
use Rattle.wire.proofs.Basics.{arith}
use Rattle.text.proofs.Texts.{length-word}
use Rattle.output.proofs.Sending.{pours-put}
use Rattle.output.proofs.pour_decimal.Goals as goal

pub returns-then-room-ge-LINE : goal.returns-then-room-ge-LINE
returns-then-room-ge-LINE c =
    pours-put (omega (arith, c.if-room-ge-LINE.true, c.room.ensures, length-word c.args.n c.ranges.n.fits)) c.put_decimal.ensures

pub returns : goal.returns
returns c = c.decimal_apart.ensures
