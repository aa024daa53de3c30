-- Halving by a test of each word. Assumes nothing.
use Rattle.wire.proofs.Basics.{◌∙◌, ap, ℕ}
use Rattle.wire.specs.Halving.{halve}
use Rattle.sorted_set.specs.Halving.{smaller, rank_in}
use Rattle.sorted_set.proofs.rank.Goals as goal

pub returns : goal.returns
unfolding rank_in
returns c =
    let p = smaller c.args.w.now c.args.x in
    c.partition_point.ensures.found ∙ ap (λ (n : ℕ). halve n p 0 n) c.min-m.ensures
