-- A word, a number and the end of the line. Assumes nothing.
use Rattle.output.proofs.Sending.{pours-then}
use Rattle.output.proofs.pour_counted_line.Goals as goal

pub returns : goal.returns
returns c =
    pours-then c.pour_counted-next.ensures c.pour.ensures
