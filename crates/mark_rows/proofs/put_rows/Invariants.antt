-- Element by element. The loop's invariant: with those from the place on, all are laid. Assumes nothing.
use Rattle.wire.proofs.Basics.{◌≡◌, ◌≤◌, ◌+◌, ◌-◌, ◌*◌, length, sets}
use Rattle.mark_rows.specs.Rows.{rows_of}
use Rattle.mark_rows.specs.InsideRows.{placed_from}
use Rattle.mark_rows.proofs.put_rows.Given as goal

abbrev pub invariant-loop-place : goal.invariant-loop-place
invariant-loop-place l =
    (length l.rows ≡ length l.initial.rows) × ((l.q + 8 * length (placed_from l.two l.list l.place) ≤ length l.initial.rows) × (sets l.rows l.q (rows_of (placed_from l.two l.list l.place)) ≡ sets l.initial.rows 0 (rows_of (placed_from l.two l.list 4))))

abbrev pub decreases-loop-place : goal.decreases-loop-place
decreases-loop-place l = length l.list - l.place
