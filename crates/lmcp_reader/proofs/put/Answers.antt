-- `lmcp_reader::put` meets its contract: past the end nothing is written.
use Rattle.wire.proofs.Basics.{sym, set_out}
use Rattle.lmcp_reader.proofs.put.Goals as goal

pub returns-else-q-list : goal.returns-else-q-list
returns-else-q-list c = sym (set_out _ _ _ c.if-q-list.false)
