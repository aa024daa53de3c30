-- A block, while the place is not past the most bytes. Assumes nothing.
use Rattle.wire.proofs.Basics.{◌∙◌, ap, refl, length, arith}
use Rattle.wire.proofs.Overlays.{length-overlay}
use Rattle.ack_writer.proofs.put_next.Goals as goal

pub returns-then-at-gt-MAX_BLOCKS : goal.returns-then-at-gt-MAX_BLOCKS
returns-then-at-gt-MAX_BLOCKS c =
    let t = c.if-at-gt-MAX_BLOCKS.true in
    record { on = omega arith; size = refl; next = λ h. absurd (omega (arith, t, h)); put = λ h. absurd (omega (arith, t, h)) }

pub returns : goal.returns
returns c =
    let p = c.put_block.ensures in
    let b = c.block_length.ensures.0 in
    record { on = omega arith; size = ap length p ∙ simp length-overlay; next = λ h. omega (arith, b); put = λ h. p }
