-- The lines are those of the input that was read, or it is longer than the buffer. Assumes nothing.
use Rattle.wire.proofs.Basics.{ap}
use Rattle.stream.specs.Whole.{told_all}
use Rattle.log_lines.proofs.Inputs.{tells-whole}
use Rattle.log_lines.proofs.tell.Goals as goal

pub returns : goal.returns
returns g c = tells-whole c.read_all.new.buf c.read_all.ensures (ap told_all c.in-Some.is) c.part.ensures c.tell.ensures
