-- The log's head stands in the buffer, which is not refused, and the entries go behind it. Assumes nothing.
use Rattle.log_write.proofs.Records.{begun-never, begun_pours, made_tells}
use Rattle.log_write.proofs.made.Goals as goal

pub returns-in_default : goal.returns-in_default
returns-in_default c = absurd (begun-never c.args.out.now _ _ c.requires.1 c.begin.ensures _ c.in_default.is)

pub returns : goal.returns
returns c = made_tells (begun_pours c.args.out.now _ _ c.requires.1 c.begin.ensures _ c.in-Ok.is) c.kept.ensures
