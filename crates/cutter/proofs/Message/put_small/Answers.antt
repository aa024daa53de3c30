-- `cutter::Message::put_small` meets its contract. Assumes nothing.
use Rattle.wire.proofs.Basics.{length-append, arith}
use Rattle.wire.proofs.Numbers.{length-bytes}
use Rattle.wire.proofs.Overlays.{overlay-next}
use Rattle.cutter.specs.Cut.{small_bytes}
use Rattle.cutter.proofs.Message.put_small.Goals as goal

pub returns : goal.returns
unfolding small_bytes
returns c =
    let d = c.args.out.now in
    let w2 = overlay-next d _ _ _ _ 4 c.put.ensures (simp length-bytes) c.put-2.ensures in
    let w3 = overlay-next d _ _ _ _ 8 w2 (simp (length-append, length-bytes)) c.put_bytes.ensures in
    let w4 = overlay-next d _ _ _ _ _ w3 (simp (length-append, length-bytes) (omega arith)) c.put-3.ensures in
    overlay-next d _ _ _ _ _ w4 (simp (length-append, length-bytes) (omega arith)) c.put_bytes-2.ensures
