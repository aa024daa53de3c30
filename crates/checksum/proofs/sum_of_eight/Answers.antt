-- `checksum::sum_of_eight` meets its contract. Assumes nothing.
use Rattle.wire.proofs.Basics.{arith}
use Rattle.checksum.proofs.Strides.{sum-eight}
use Rattle.checksum.proofs.sum_of_eight.Goals as goal

pub returns : goal.returns
returns c =
    let a = c.args in
    omega (arith, sum-eight a.b.now a.i (omega arith))
