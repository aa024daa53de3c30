-- `lmcp_writer::put_four` meets its contract.
use Rattle.lmcp_writer.proofs.Widths.{four-laid}
use Rattle.lmcp_writer.proofs.put_four.Goals as goal

pub returns : goal.returns
returns c =
    let second = c.put_two-2 in
    let first = c.put_two in
    let a = c.args in
    four-laid a.out.now first.new.out second.new.out a.to a.v first.ensures second.ensures
