use Rattle.wire.proofs.Basics.{rules}
use Rattle.output.proofs.Adding.{adds_then}
use Rattle.output.proofs.Output.pour_counted_line.Goals as goal

pub returns : goal.returns
returns c = search (rules, adds_then)
