-- The block of a run at a place. Assumes nothing.
use Rattle.wire.proofs.Basics.{◌∙◌, sym, ap, refl, ℕ, ◌+◌, length-append}
use Rattle.wire.specs.Overlay.{overlay}
use Rattle.wire.specs.Bytes.{bytes}
use Rattle.wire.proofs.Numbers.{length-bytes}
use Rattle.ack_blocks.specs.Blocks.{Block, block_bytes}
use Rattle.ack_writer.proofs.Runs.{put_next}
use Rattle.ack_writer.proofs.BlockOfRun.{one_single, one-run}
use Rattle.ack_writer.proofs.put_block.Goals as goal

pub returns-then-first-last : goal.returns-then-first-last
returns-then-first-last c =
    let a = c.args in
    put_next a.out.now _ _ _ _ a.at _ (c.put_number.ensures ∙ ap (λ (n : ℕ). overlay a.out.now a.at (bytes 1 n)) c.from.ensures) (ap (λ (n : ℕ). a.at + n) (sym (length-bytes 1 0))) c.put_number-then-first-last.ensures
    ∙ ap (λ (k : Block). overlay a.out.now a.at (block_bytes k)) (sym (one_single a.first a.last c.if-first-last.true))

pub returns : goal.returns
returns c =
    let a = c.args in
    let w = put_next a.out.now _ _ _ _ a.at _ (c.put_number-2.ensures ∙ ap (λ (n : ℕ). overlay a.out.now a.at (bytes 1 n)) c.from-2.ensures) (ap (λ (n : ℕ). a.at + n) (sym (length-bytes 1 1))) c.put_number-3.ensures in
    put_next a.out.now _ _ _ _ a.at _ w (simp (length-append, length-bytes) refl) c.put_number-4.ensures
    ∙ ap (λ (k : Block). overlay a.out.now a.at (block_bytes k)) (sym (one-run a.first a.last c.if-first-last.false))
