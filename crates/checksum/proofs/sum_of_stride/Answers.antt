-- `checksum::sum_of_stride` meets its contract. Assumes nothing.
use Rattle.wire.proofs.Basics.{arith}
use Rattle.checksum.proofs.Strides.{sum-stride}
use Rattle.checksum.proofs.sum_of_stride.Goals as goal

pub returns : goal.returns
returns c =
    let a = c.args in
    omega (arith, sum-stride a.b.now a.i)
