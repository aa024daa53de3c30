-- Refusal 77 first. Assumes nothing.
use Rattle.wire.proofs.Basics.{◌∙◌, sym}
use Rattle.ack_blocks.proofs.BlockTurns.{asked-long, asked-fits}
use Rattle.ack_blocks.proofs.ask.Goals as goal

pub returns-then-b-gt-MAX_BLOCKS : goal.returns-then-b-gt-MAX_BLOCKS
returns-then-b-gt-MAX_BLOCKS c =
    let a = c.args in
    sym (asked-long a.b.now a.n c.if-b-gt-MAX_BLOCKS.true)

pub returns : goal.returns
returns c =
    let a = c.args in
    c.walk.ensures ∙ sym (asked-fits a.b.now a.n c.if-b-gt-MAX_BLOCKS.false)
