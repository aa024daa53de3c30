use Rattle.wire.proofs.Basics.{arith, rules}
use Rattle.wire.specs.Sum.{sum}
use Rattle.checksum.proofs.Strides.{summed-more}
use Rattle.checksum.proofs.checksum.Goals as goal

pub loop-i-init : goal.loop-i-init
unfolding sum
loop-i-init c = search rules

pub loop-i-preserved : goal.loop-i-preserved
loop-i-preserved c =
    let b = c.args.b.now in
    summed-more b c.loop-i.i 64 c.loop-i.t _ c.loop-i.invariant (omega arith) c.sum_of_stride.ensures.0

pub sum_on_by_eight-requires : goal.sum_on_by_eight-requires
sum_on_by_eight-requires c = c.loop-i.invariant

pub returns : goal.returns
returns c = c.sum_on_by_eight.ensures
