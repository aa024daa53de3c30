-- A line: its number, what was found, its end. Assumes nothing.
use Rattle.output.proofs.Adding.{adds_then}
use Rattle.lmcp_list.proofs.pour_line.Goals as goal

pub returns : goal.returns
returns c = adds_then (adds_then c.pour_decimal.ensures c.pour_found.ensures) c.pour.ensures
