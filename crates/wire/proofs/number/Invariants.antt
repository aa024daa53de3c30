-- `wire::number` meets its contract. The loop's invariant: v is the number of the i bytes passed, and fits them. Assumes nothing.
use Rattle.wire.proofs.Basics.{◌≡◌, ◌<◌, ◌^◌, drop}
use Rattle.wire.specs.Bytes.{be}
use Rattle.wire.proofs.number.Given as goal

abbrev pub invariant-loop-i : goal.invariant-loop-i
invariant-loop-i l = (l.v ≡ be l.i (drop l.at l.s)) × (l.v < 256 ^ l.i)
