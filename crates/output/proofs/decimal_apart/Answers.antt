-- A number goes to a line, and from there out. Assumes nothing.
use Rattle.text.proofs.Texts.{length-word}
use Rattle.wire.proofs.Basics.{◌∙◌, arith}
use Rattle.output.proofs.Zeros.{zeros}
use Rattle.output.proofs.Sending.{pours-is, put_front}
use Rattle.output.proofs.decimal_apart.Goals as goal

pub returns : goal.returns
returns c =
    pours-is c.pour.ensures (c.part.ensures ∙ put_front _ _ _ _ (omega (arith, zeros 128, length-word c.args.n c.ranges.n.fits)) c.put_decimal-k.ensures)
