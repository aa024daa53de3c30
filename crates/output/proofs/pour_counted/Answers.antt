-- A word and a number. Assumes nothing.
use Rattle.output.proofs.Sending.{pours-then}
use Rattle.output.proofs.pour_counted.Goals as goal

pub returns : goal.returns
returns c =
    pours-then c.pour-next.ensures c.pour_decimal.ensures
