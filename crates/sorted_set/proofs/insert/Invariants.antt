-- `sorted_set::insert` meets its contract. The loop's invariant: the words from i up to the n-th are moved up by one. Assumes nothing.
use Rattle.wire.proofs.Basics.{◌≡◌, ◌≤◌, length}
use Rattle.sorted_set.proofs.Moves.{moved}
use Rattle.sorted_set.proofs.insert.Given as goal

abbrev pub invariant-loop-i : goal.invariant-loop-i
invariant-loop-i l = (l.at ≤ l.i) × (l.i ≤ l.n) × (length l.w ≡ length l.initial.w) × (l.w ≡ moved l.initial.w l.i l.n)

abbrev pub decreases-loop-i : goal.decreases-loop-i
decreases-loop-i l = l.i
