-- `lmcp_writer::put_two` meets its contract.
use Rattle.wire.proofs.Basics.{length-set, arith}
use Rattle.lmcp_writer.proofs.Widths.{two-laid}
use Rattle.lmcp_writer.proofs.put_two.Goals as goal

pub bounds-out-to-2 : goal.bounds-out-to-2
bounds-out-to-2 c = rw length-set (omega (arith, c.requires))

pub returns : goal.returns
returns c = two-laid c.args.out.now c.args.to c.args.v
