-- The bytes of a packet, field by field. Assumes nothing.
use Rattle.wire.proofs.Basics.{length-append, arith}
use Rattle.wire.proofs.Numbers.{length-bytes}
use Rattle.wire.proofs.Overlays.{overlay-next}
use Rattle.moss_writer.specs.Write.{packet_bytes}
use Rattle.moss_writer.proofs.put_packet.Goals as goal

pub returns : goal.returns
unfolding packet_bytes
returns c =
    let d = c.args.out.now in
    let w1 = overlay-next d _ _ _ _ 4 c.put_number.ensures (simp length-bytes) c.put_bytes.ensures in
    let w2 = overlay-next d _ _ _ _ 14 w1 (simp (length-append, length-bytes) (omega (arith, c.well_formed))) c.put_number-2.ensures in
    let w3 = overlay-next d _ _ _ _ 18 w2 (simp (length-append, length-bytes) (omega (arith, c.well_formed))) c.put_number-3.ensures in
    overlay-next d _ _ _ _ 19 w3 (simp (length-append, length-bytes) (omega (arith, c.well_formed))) c.put_bytes-2.ensures
