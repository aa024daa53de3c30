-- Of no answers all totals are 0. Assumes nothing.
use Rattle.wire.proofs.Basics.{refl}
use Rattle.count_rules.specs.Run.{how_many}
use Rattle.stretch.proofs.nothing.Goals as goal

pub returns : goal.returns
unfolding how_many
returns c = refl
