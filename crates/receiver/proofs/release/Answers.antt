-- `receiver::release` meets its contract. Assumes nothing.
use Rattle.wire.proofs.Basics.{arith}
use Rattle.receiver_state.proofs.Moves.{released}
use Rattle.receiver.proofs.release.Goals as goal

pub clear_block-requires : goal.clear_block-requires
clear_block-requires c =
    omega (arith, c.requires.0, c.requires.1.words)

pub clear_name-requires : goal.clear_name-requires
clear_name-requires c =
    omega (arith, c.requires.0, c.requires.1.bytes)

pub returns : goal.returns
returns c =
    let args = c.args in
    released args.state.now args.names.now c.requires.1 args.s c.requires.0 c.word_of-t.result _ _ _ c.word_of-t.ensures c.clear_block.ensures c.lower.ensures c.clear_name.ensures
