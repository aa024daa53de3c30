-- The end of a line, by whether a key was emptied. Assumes nothing.
use Rattle.output.proofs.Adding.{adds_then}
use Rattle.replay_lines.proofs.pour_emptied.Goals as goal

pub returns-in-Was : goal.returns-in-Was
returns-in-Was c = rw c.in-Was.is (adds_then c.pour_counted.ensures c.pour_counted_line.ensures)
