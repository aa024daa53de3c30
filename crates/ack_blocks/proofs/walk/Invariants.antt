-- The loop: what was found, and what the blocks left acknowledge, is the answer. Assumes nothing.
use Rattle.wire.proofs.Basics.{◌≡◌, ◌-◌, length, drop}
use Rattle.ack_blocks.specs.Read.{blocks_in, told}
use Rattle.ack_blocks.specs.InsideWalk.{also}
use Rattle.ack_blocks.proofs.walk.Given as goal

abbrev pub invariant-loop-at : goal.invariant-loop-at
invariant-loop-at l = told l.n (blocks_in l.b) ≡ also l.found (told l.n (blocks_in (drop l.at l.b)))

abbrev pub decreases-loop-at : goal.decreases-loop-at
decreases-loop-at l = length l.b - l.at
