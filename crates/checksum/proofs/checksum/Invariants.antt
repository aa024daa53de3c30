-- `checksum::checksum` meets its contract. The loop's invariant: t is the sum of the bytes passed. Assumes nothing.
use Rattle.wire.proofs.Basics.{◌-◌, length}
use Rattle.checksum.specs.InsideStrides.{Summed}
use Rattle.checksum.proofs.checksum.Given as goal

abbrev pub invariant-loop-i : goal.invariant-loop-i
invariant-loop-i l = Summed l.b l.i l.t

abbrev pub decreases-loop-i : goal.decreases-loop-i
decreases-loop-i l = length l.b - l.i
