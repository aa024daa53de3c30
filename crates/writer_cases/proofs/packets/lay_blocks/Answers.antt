use Rattle.wire.proofs.Basics.{arith}
use Rattle.writer_cases.proofs.Laying.{laid-within}
use Rattle.writer_cases.proofs.packets.lay_blocks.Goals as goal

pub overflow_add-at : goal.overflow_add-at
overflow_add-at c =
    let l = c.loop in
    let w = laid-within c.args.message.now l.at _ _ _ c.lay_block.ensures.answer c.in-Ok.is in
    record { fits = omega (arith, w, l.auto.blocks, c.well_formed.0.1) }

pub loop-preserved : goal.loop-preserved
loop-preserved c =
    let l = c.loop in
    let w = laid-within c.args.message.now l.at _ _ _ c.lay_block.ensures.answer c.in-Ok.is in
    omega (arith, w, c.lay_block.auto.out)
