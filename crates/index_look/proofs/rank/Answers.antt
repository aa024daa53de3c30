-- Halving over the rows where they stand. Assumes nothing.
use Rattle.index_look.specs.Look.{file_rank}
use Rattle.index_look.proofs.rank.Goals as goal

pub returns : goal.returns
unfolding file_rank
returns c =
    let h = c.partition_point.ensures in
    (h.found, h.within)
