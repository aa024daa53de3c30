-- `wire::put_low` meets its contract: the bytes above the lowest, then the lowest. Assumes nothing.
use Rattle.wire.proofs.+put_low.Given as goal

abbrev pub decreases-put_low : goal.decreases-put_low
decreases-put_low l = l.k
