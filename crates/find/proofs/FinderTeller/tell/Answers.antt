-- The line went into the output, and it is written out. Assumes nothing.
use Rattle.wire.proofs.Basics.{append-nil}
use Rattle.output.proofs.Adding.{ends_then, ends_is}
use Rattle.find.proofs.FinderTeller.tell.Goals as goal

pub returns : goal.returns
returns c = ends_is (ends_then c.answer.ensures c.write_out.ensures) (append-nil _)
