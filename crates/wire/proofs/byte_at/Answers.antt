-- `wire::byte_at` meets its contract. Assumes nothing.
use Rattle.wire.proofs.Basics.{sym, List·getD-eq-default, arith}
use Rattle.wire.proofs.byte_at.Goals as goal

pub returns : goal.returns
returns c = (sym (List·getD-eq-default c.args.s.now 0 (omega arith)), omega arith)
