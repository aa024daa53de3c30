-- `receiver::clear_block` meets its contract. Assumes nothing.
use Rattle.wire.proofs.Basics.{rules}
use Rattle.slots.specs.Words.{block_words}
use Rattle.receiver.proofs.Clears.{cleared}
use Rattle.receiver.proofs.clear_block.Goals as goal

pub returns : goal.returns
returns c = cleared c.args.state.now _ c.args.b block_words c.requires (c.fill.ensures.after (λ y e. search rules))
