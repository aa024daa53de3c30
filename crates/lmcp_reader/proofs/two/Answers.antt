-- `lmcp_reader::two` meets its contract.
use Rattle.wire.proofs.Basics.{◌∙◌}
use Rattle.lmcp.proofs.Widths.{be_two_bytes}
use Rattle.lmcp_reader.proofs.two.Goals as goal

pub returns : goal.returns
returns c = c.from_be_bytes.ensures ∙ be_two_bytes c.args.s.now c.args.at
