-- `ranks::lower_ranks` meets its contract. The loop's invariant: the ranks of the i places passed are lowered, and `at` is where place i
-- begins, or the end. Assumes nothing.
use Rattle.wire.proofs.Basics.{◌≡◌, min, length}
use Rattle.ranks.specs.Ranks.{place_at, ranks_lowered}
use Rattle.ranks.proofs.lower_ranks.Given as goal

abbrev pub invariant-loop-i : goal.invariant-loop-i
invariant-loop-i l = (l.at ≡ min (place_at l.p l._i) (length l.w)) × (l.w ≡ ranks_lowered l.initial.w l.p l.t l._i)
