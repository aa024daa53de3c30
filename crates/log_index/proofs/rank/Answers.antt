-- Halving over the rows as they stand. Assumes nothing.
use Rattle.log_index.specs.Words.{rank_in}
use Rattle.log_index.proofs.rank.Goals as goal

pub returns : goal.returns
unfolding rank_in
returns c =
    let h = c.partition_point.ensures in
    (h.found, h.within)
