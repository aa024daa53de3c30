-- Hexadecimal digits go to a line, and from there out. Assumes nothing.
use Rattle.wire.proofs.Basics.{◌∙◌, arith}
use Rattle.output.proofs.Zeros.{zeros}
use Rattle.output.proofs.Sending.{pours-is, put_front, length-hex}
use Rattle.output.proofs.piece_apart.Goals as goal

pub returns : goal.returns
returns c =
    pours-is c.pour.ensures (c.part.ensures ∙ put_front _ _ _ _ (omega (arith, zeros 128, length-hex c.args.bytes.now, c.requires)) c.put_hex-k.ensures)
