-- A signed number goes to a line, and from there out. Assumes nothing.
use mir.Syntax.{w64}
use mir.ValLaws.{to_z-of_z}
use Rattle.text.specs.Text.{signed_decimal}
use Rattle.text.proofs.Puts.{put_is}
use Rattle.wire.proofs.Signs.{sfits-within}
use Rattle.text.proofs.Texts.{length-signed}
use Rattle.wire.proofs.Basics.{◌∙◌, ap, arith}
use Rattle.output.proofs.Zeros.{zeros}
use Rattle.output.proofs.Sending.{pours-is, put_front}
use Rattle.output.proofs.signed_apart.Goals as goal

pub returns : goal.returns
returns c =
    pours-is c.pour.ensures (c.part.ensures ∙ put_front _ _ _ _ (omega (arith, zeros 128, length-signed c.args.z (sfits-within w64 c.args.z c.ranges.z))) (put_is c.put_signed-k.ensures (ap signed_decimal (to_z-of_z w64 c.args.z c.ranges.z))))
