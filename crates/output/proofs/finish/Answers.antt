-- The last line, and all that is not written out yet. Assumes nothing.

use Rattle.output.proofs.finish.Goals as goal

pub returns : goal.returns
returns c =
    record { end = c.pour_last-end.result; poured = c.pour_last-end.ensures; told = c.write_out.ensures }
