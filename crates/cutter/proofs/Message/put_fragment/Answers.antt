-- `cutter::Message::put_fragment` meets its contract. Assumes nothing.
use Rattle.wire.proofs.Basics.{◌∙◌, sym, ◌≡◌, ap, length-append, arith}
use Rattle.wire.specs.Overlay.{overlay}
use Rattle.wire.proofs.Numbers.{length-bytes}
use Rattle.wire.proofs.Overlays.{overlay-next}
use Rattle.cutter.specs.Cut.{piece_of}
use Rattle.cutter.proofs.Written.{length-head, fragment-first, fragment-later}
use Rattle.cutter.proofs.Message.put_fragment.Goals as goal

pub returns-then-k-eq0 : goal.returns-then-k-eq0
unfolding piece_of
returns-then-k-eq0 c =
    let a = c.args in
    let d = a.out.now in
    let begin = c.begins_at-begin.ensures.is in
    let piece : c.part-data.result.now ≡ piece_of a.self.now.name.now a.self.now.payload.now a.self.now.m a.k = c.part-data.ensures ∙ rw (c.carried.ensures.is, begin) in
    let w2 = overlay-next d _ _ _ _ 20 c.put_head.ensures (sym (length-head _ _ _ _ _)) c.put_bytes.ensures in
    let w3 = overlay-next d _ _ _ _ _ w2 (simp (length-append, length-head)) c.put.ensures in
    let w4 = overlay-next d _ _ _ _ _ w3 (simp (length-append, length-head, length-bytes) (omega arith)) c.put_bytes-then-k-eq0.ensures in
    w4 ∙ rw (begin, piece) (ap (overlay d 0) (sym (fragment-first _ _ _ _ _ _ c.if-k-eq0.true)))

pub returns : goal.returns
unfolding piece_of
returns c =
    let a = c.args in
    let d = a.out.now in
    let begin = c.begins_at-begin.ensures.is in
    let piece : c.part-data.result.now ≡ piece_of a.self.now.name.now a.self.now.payload.now a.self.now.m a.k = c.part-data.ensures ∙ rw (c.carried.ensures.is, begin) in
    let w2 = overlay-next d _ _ _ _ 20 c.put_head.ensures (sym (length-head _ _ _ _ _)) c.put_bytes-2.ensures in
    w2 ∙ rw (begin, piece) (ap (overlay d 0) (sym (fragment-later _ _ _ _ _ _ c.if-k-eq0.false)))
