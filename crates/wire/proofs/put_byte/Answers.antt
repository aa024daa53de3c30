-- `wire::put_byte` meets its contract. Assumes nothing.
use Rattle.wire.proofs.Basics.{sym, set_out, arith}
use Rattle.wire.proofs.put_byte.Goals as goal

pub returns-else-i-room : goal.returns-else-i-room
returns-else-i-room c = sym (set_out c.args.out.now _ _ (omega arith))
