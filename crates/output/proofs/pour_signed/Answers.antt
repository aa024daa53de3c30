-- A signed number in decimal: it is short. Assumes nothing.
use Rattle.wire.proofs.Basics.{ap, arith}
use mir.Syntax.{w64}
use mir.ValLaws.{to_z-of_z}
use Rattle.wire.proofs.Signs.{sfits-within}
use Rattle.text.specs.Text.{signed_decimal}
use Rattle.text.proofs.Puts.{put_is}
use Rattle.text.proofs.Texts.{length-signed}
use Rattle.output.proofs.Sending.{pours-put, pours-is}
use Rattle.output.proofs.pour_signed.Goals as goal

pub returns-then-room-ge-LINE : goal.returns-then-room-ge-LINE
returns-then-room-ge-LINE c =
    pours-put (omega (arith, c.if-room-ge-LINE.true, c.room.ensures, length-signed c.args.z (sfits-within w64 c.args.z c.ranges.z))) (put_is c.put_signed.ensures (ap signed_decimal (to_z-of_z w64 c.args.z c.ranges.z)))

pub returns : goal.returns
returns c =
    pours-is c.signed_apart.ensures (ap signed_decimal (to_z-of_z w64 c.args.z c.ranges.z))
