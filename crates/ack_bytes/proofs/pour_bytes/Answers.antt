-- The blocks in hexadecimal, if there are any. Assumes nothing.
use Rattle.output.proofs.Adding.{adds_then, adds_is}
use Rattle.ack_bytes.proofs.Records.{bytes-none, bytes-some}
use Rattle.ack_bytes.proofs.pour_bytes.Goals as goal

pub returns-then-blocks-eq0 : goal.returns-then-blocks-eq0
returns-then-blocks-eq0 c = adds_is c.pour.ensures (bytes-none c.args.blocks.now c.if-blocks-eq0.true)

pub returns : goal.returns
returns c =
    adds_is (adds_then (adds_then c.pour-2.ensures c.pour_hex.ensures) c.pour-3.ensures) (bytes-some c.args.blocks.now c.if-blocks-eq0.false)
