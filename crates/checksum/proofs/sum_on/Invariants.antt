-- `checksum::sum_on` meets its contract. The loop's invariant: t is the sum of the bytes passed. Assumes nothing.
use Rattle.wire.proofs.Basics.{◌+◌}
use Rattle.checksum.specs.InsideStrides.{Summed}
use Rattle.checksum.proofs.sum_on.Given as goal

abbrev pub invariant-loop-x : goal.invariant-loop-x
invariant-loop-x l = Summed l.b (l.from + l.x-index) l.t
