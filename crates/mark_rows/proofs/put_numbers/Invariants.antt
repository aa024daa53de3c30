-- Number by number. The loop's invariant: with those from i on, all are written. Assumes nothing.
use Rattle.wire.proofs.Basics.{◌≡◌, ◌+◌, length, drop, sets}
use Rattle.mark_rows.proofs.put_numbers.Given as goal

abbrev pub invariant-loop-i : goal.invariant-loop-i
invariant-loop-i l = (length l.rows ≡ length l.initial.rows) × (sets l.rows (l.q + l.i) (drop l.i l.src) ≡ sets l.initial.rows l.q l.src)
