-- `cutter::put_head` meets its contract. Assumes nothing.
use Rattle.wire.proofs.Basics.{length-append}
use Rattle.wire.proofs.Numbers.{length-bytes}
use Rattle.wire.proofs.Overlays.{overlay-next}
use Rattle.cutter.specs.Cut.{head_bytes}
use Rattle.cutter.proofs.put_head.Goals as goal

pub returns : goal.returns
unfolding head_bytes
returns c =
    let d = c.args.out.now in
    let w2 = overlay-next d _ _ _ _ 4 c.put.ensures (simp length-bytes) c.put-2.ensures in
    let w3 = overlay-next d _ _ _ _ 8 w2 (simp (length-append, length-bytes)) c.put-3.ensures in
    let w4 = overlay-next d _ _ _ _ 12 w3 (simp (length-append, length-bytes)) c.put-4.ensures in
    let w5 = overlay-next d _ _ _ _ 16 w4 (simp (length-append, length-bytes)) c.put-5.ensures in
    overlay-next d _ _ _ _ 18 w5 (simp (length-append, length-bytes)) c.put-6.ensures
