-- One block at a place of the output. Assumes nothing.
use Rattle.wire.proofs.Basics.{◌∙◌, sym, ap, ℕ, ◌+◌, length, arith}
use Rattle.wire.specs.Bytes.{bytes}
use Rattle.wire.specs.Overlay.{overlay}
use Rattle.wire.proofs.Numbers.{length-bytes}
use Rattle.wire.proofs.Overlays.{overlay-append}
use Rattle.moss.specs.Packet.{Given}
use Rattle.moss.specs.Blocks.{block}
use Rattle.moss_writer.specs.Write.{output_of}
use Rattle.moss_writer.proofs.Plans.{laid-long, laid-short, laid_done}
use Rattle.moss_writer.proofs.lay_block.Goals as goal

pub returns-then-n-gt-MAX_MESSAGE : goal.returns-then-n-gt-MAX_MESSAGE
returns-then-n-gt-MAX_MESSAGE c =
    let a = c.args in
    let e = laid-long a.message.now a.at (length a.out.now) c.if-n-gt-MAX_MESSAGE.true in
    record { answer = sym e; output = ap (λ (g : Given ℕ). output_of g a.out.now a.at (block a.message.now)) (sym e) }

pub returns-then-room-n : goal.returns-then-room-n
returns-then-room-n c =
    let a = c.args in
    let e = laid-short a.message.now a.at (length a.out.now) c.if-n-gt-MAX_MESSAGE.false (omega arith) in
    record { answer = sym e; output = ap (λ (g : Given ℕ). output_of g a.out.now a.at (block a.message.now)) (sym e) }

pub returns : goal.returns
returns c =
    let a = c.args in
    let m = a.message.now in
    let e = laid_done m a.at (length a.out.now) c.if-n-gt-MAX_MESSAGE.false (omega arith) in
    let put = c.put_bytes.ensures ∙ ap (λ (l : _). overlay l (a.at + 2) m) c.put_number.ensures in
    let both = overlay-append a.out.now a.at (bytes 2 (length m)) m ∙ ap (λ (n : ℕ). overlay (overlay a.out.now a.at (bytes 2 (length m))) (a.at + n) m) (length-bytes 2 (length m)) in
    record { answer = sym e; output = put ∙ sym both ∙ ap (λ (g : Given ℕ). output_of g a.out.now a.at (block m)) (sym e) }
