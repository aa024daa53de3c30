use Rattle.wire.proofs.Basics.{arith}
use Rattle.checksum.proofs.Strides.{summed-more}
use Rattle.checksum.proofs.sum_on_by_eight.Goals as goal

pub loop-i-init : goal.loop-i-init
loop-i-init c = c.requires

pub loop-i-preserved : goal.loop-i-preserved
loop-i-preserved c =
    let b = c.args.b.now in
    summed-more b c.loop-i.i 8 c.loop-i.t _ c.loop-i.invariant (omega arith) c.sum_of_eight.ensures.0

pub sum_on-requires : goal.sum_on-requires
sum_on-requires c = c.loop-i.invariant

pub returns : goal.returns
returns c = c.sum_on.ensures
