-- A list that is too long for the program. Assumes nothing.
use Rattle.output.proofs.Adding.{adds_then}
use Rattle.lmcp_bytes.proofs.pour_longer.Goals as goal

pub returns : goal.returns
returns c = adds_then c.pour_counted.ensures c.pour.ensures
