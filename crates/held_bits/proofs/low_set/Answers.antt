-- `held_bits::low_set` meets its contract. Assumes nothing.
use Rattle.wire.proofs.Basics.{arith}
use lib.Pow.{pow_pos}
use Rattle.held_bits.proofs.Bits.{above-bits, low_bits}
use Rattle.held_bits.proofs.low_set.Goals as goal

pub nonzero_rem-result : goal.nonzero_rem-result
nonzero_rem-result c =
    let n = c.args.n in
    omega (arith, pow_pos n, above-bits n (omega arith))

pub overflow_sub-result : goal.overflow_sub-result
overflow_sub-result c =
    let n = c.args.n in
    omega (arith, pow_pos n, above-bits n (omega arith))

pub returns : goal.returns
returns c =
    let a = c.args in
    rw (above-bits a.n (omega arith)) (low_bits a.n a.w)
