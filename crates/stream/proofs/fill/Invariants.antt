-- Reading on until enough is unread. The loop's invariant: bytes came after the end, up to e. Assumes nothing.
use Rattle.wire.proofs.Basics.{◌≤◌, ◌-◌}
use Rattle.stream.specs.InsideWindows.{Grown}
use Rattle.stream.proofs.fill.Given as goal

abbrev pub invariant-loop-e : goal.invariant-loop-e
invariant-loop-e l = (l.at ≤ l.end) × Grown l.initial.buf l.end l.buf l.e

abbrev pub decreases-loop-e : goal.decreases-loop-e
decreases-loop-e l = l.want - (l.e - l.at)
