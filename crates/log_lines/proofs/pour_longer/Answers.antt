-- `log_lines::pour_longer` meets its contract. Assumes nothing.
use Rattle.output.proofs.Adding.{adds_then}
use Rattle.log_lines.proofs.pour_longer.Goals as goal

pub returns : goal.returns
returns c = adds_then c.pour_counted.ensures c.pour.ensures
