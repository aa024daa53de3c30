-- `ranks::lowest_ranked` meets its contract. The loop's invariant: `best` is the lowest of the i places passed, `low` its rank, and `at` where
-- place i begins, or the end. Assumes nothing.
use Rattle.wire.proofs.Basics.{◌≡◌, min, length}
use Rattle.ranks.specs.Ranks.{place_at, rank_of, lowest_ranked_lem}
use Rattle.ranks.proofs.lowest_ranked.Given as goal

abbrev pub invariant-loop-i : goal.invariant-loop-i
invariant-loop-i l = (l.at ≡ min (place_at l.p l.i) (length l.w)) × (l.best ≡ lowest_ranked_lem l.w l.p l.i) × (l.low ≡ rank_of l.w l.p l.best)
