-- Element by element. The loop's invariant: those counted, and those from the place on, are all. Assumes nothing.
use Rattle.wire.proofs.Basics.{◌≡◌, ◌≤◌, ◌+◌, ◌-◌, length}
use Rattle.mark_rows.specs.InsideRows.{placed_from}
use Rattle.mark_rows.proofs.count_marks.Given as goal

abbrev pub invariant-loop-place : goal.invariant-loop-place
invariant-loop-place l = (l.n ≤ l.place) × (l.n + length (placed_from l.two l.list l.place) ≡ length (placed_from l.two l.list 4))

abbrev pub decreases-loop-place : goal.decreases-loop-place
decreases-loop-place l = length l.list - l.place
