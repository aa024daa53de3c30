-- The text went into the output, and all of it is written out. Assumes nothing.
use Rattle.wire.proofs.Basics.{append-nil}
use Rattle.output.proofs.Adding.{ends_then, ends_is}
use Rattle.log_lines.proofs.finish_longer.Goals as goal

pub returns : goal.returns
returns c = ends_is (ends_then c.pour_longer.ensures c.write_out.ensures) (append-nil _)
