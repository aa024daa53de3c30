-- The bytes of a single and of a run. Assumes nothing.
use Rattle.wire.proofs.Basics.{◌∙◌, sym, ap, length, arith}
use Rattle.ack_blocks.specs.Blocks.{Block, block_bytes}
use Rattle.ack_writer.proofs.BlockOfRun.{one_single, one-run, single-length, run_length}
use Rattle.ack_writer.proofs.block_length.Goals as goal

pub returns-then-first-last : goal.returns-then-first-last
returns-then-first-last c =
    let a = c.args in
    let e = one_single a.first a.last c.if-first-last.true in
    (sym (ap (λ (k : Block). length (block_bytes k)) e ∙ single-length a.first), omega arith)

pub returns : goal.returns
returns c =
    let a = c.args in
    let e = one-run a.first a.last c.if-first-last.false in
    (sym (ap (λ (k : Block). length (block_bytes k)) e ∙ run_length a.first a.last), omega arith)
