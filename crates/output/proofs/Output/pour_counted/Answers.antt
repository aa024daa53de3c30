use Rattle.wire.proofs.Basics.{rules}
use Rattle.output.proofs.Adding.{adds_then}
use Rattle.output.proofs.Output.pour_counted.Goals as goal

pub returns : goal.returns
returns c = search (rules, adds_then)
