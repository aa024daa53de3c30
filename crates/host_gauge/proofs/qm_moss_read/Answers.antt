-- By whether there is room for the numbers that tell, and by the reader's answer. Assumes nothing.
use Rattle.wire.proofs.Basics.{◌∙◌, ap, refl, ℕ, [], ◌∷◌}
use Rattle.wire.specs.Overlay.{overlay}
use Rattle.host_gauge.proofs.Packing.{packet-short, packet-told}
use Rattle.host_gauge.proofs.qm_moss_read.Goals as goal

pub returns-then-told-lt-PACKET : goal.returns-then-told-lt-PACKET
returns-then-told-lt-PACKET c = rw c.number.ensures (packet-short _ _ c.if-told-lt-PACKET.true)

pub returns-in-Ok : goal.returns-in-Ok
returns-in-Ok c =
    let h = c.in-Ok.h in
    packet-told _ _ c.if-told-lt-PACKET.false _ c.in-Ok.ensures _ _ refl
    (c.put_words.ensures ∙ ap (λ (kind : ℕ). overlay c.args.told.now 0 (h.session ∷ h.sequence ∷ kind ∷ h.count ∷ [])) c.from.ensures)

pub returns-in-Err : goal.returns-in-Err
returns-in-Err c = packet-told _ _ c.if-told-lt-PACKET.false _ c.in-Err.ensures _ _ c.number-in-Err.ensures refl
