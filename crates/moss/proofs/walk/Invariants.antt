-- The walk over the blocks: at each turn what is walked is what was passed and the messages of what is left. Assumes nothing.
use Rattle.wire.proofs.Basics.{◌≡◌, ◌≤◌, ◌-◌, length, drop}
use Rattle.moss.specs.Blocks.{messages_in}
use Rattle.moss.specs.InsideWalk.{start, walked}
use Rattle.moss.proofs.walk.Given as goal

abbrev pub invariant-loop-at : goal.invariant-loop-at
invariant-loop-at l =
    (l.t.count ≤ l.at) × (walked start l.n l.from (messages_in (drop l.from l.b)) ≡ walked l.t l.n l.at (messages_in (drop l.at l.b)))

abbrev pub decreases-loop-at : goal.decreases-loop-at
decreases-loop-at l = length l.b - l.at
