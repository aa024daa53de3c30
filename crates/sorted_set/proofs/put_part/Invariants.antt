-- `sorted_set::put_part` meets its contract. The loop's invariant: the i words passed are written. Assumes nothing.
use Rattle.wire.proofs.Basics.{◌≡◌, ◌≤◌, ◌-◌, length, drop, take}
use Rattle.wire.specs.Overlay.{overlay}
use Rattle.sorted_set.proofs.put_part.Given as goal

abbrev pub invariant-loop-i : goal.invariant-loop-i
invariant-loop-i l = (l.i ≤ l.n) × (length l.out ≡ length l.initial.out) × (l.out ≡ overlay l.initial.out l.at (take l.i (drop l.from l.src)))

abbrev pub decreases-loop-i : goal.decreases-loop-i
decreases-loop-i l = l.n - l.i
