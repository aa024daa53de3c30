-- `lmcp_writer::put_header` meets its contract: four numbers one after the other.
use Rattle.wire.proofs.Basics.{rules, rules}
use Rattle.wire.specs.Bytes.{be}
use Rattle.lmcp.specs.Table.{pitsurv}
use Rattle.lmcp_size.specs.InsideWeighs.{one, two, four, eight}
use Rattle.lmcp_writer.proofs.NumberBytes.{laid-header}
use Rattle.lmcp_writer.proofs.put_header.Goals as goal

pub put_number-requires : goal.put_number-requires
put_number-requires c = (search rules, one)

pub put_number-requires-2 : goal.put_number-requires-2
put_number-requires-2 c = (search rules, eight)

pub put_number-requires-3 : goal.put_number-requires-3
put_number-requires-3 c = (search rules, four)

pub put_number-requires-4 : goal.put_number-requires-4
put_number-requires-4 c = (search rules, two)

pub returns : goal.returns
unfolding be
returns c =
    let a = c.args in
    laid-header (pitsurv a.version) a.n a.out.now c.put_number.new.out c.put_number-2.new.out c.put_number-3.new.out c.put_number-4.new.out a.to
    c.put_number.ensures c.put_number-2.ensures c.put_number-3.ensures c.put_number-4.ensures
