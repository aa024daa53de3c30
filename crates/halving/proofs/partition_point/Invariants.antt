-- The loop: between low and high the test changes where it changes among all. Assumes nothing.
use Rattle.wire.proofs.Basics.{◌≡◌, ◌≤◌, ◌-◌}
use Rattle.wire.specs.Halving.{halve}
use Rattle.halving.proofs.partition_point.Given as goal

abbrev pub invariant-loop-low : goal.invariant-loop-low
invariant-loop-low g l =
    let n = g.T.Halved.many l.places in
    let p = g.T.Halved.holds l.places in
    (l.low ≤ l.high) × ((l.high ≤ n) × (halve (l.high - l.low) p l.low l.high ≡ halve n p 0 n))

abbrev pub decreases-loop-low : goal.decreases-loop-low
decreases-loop-low g l = l.high - l.low
