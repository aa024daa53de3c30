-- `lmcp_reader::four` meets its contract.
use Rattle.wire.proofs.Basics.{◌∙◌}
use Rattle.lmcp.proofs.Widths.{be_four_bytes}
use Rattle.lmcp_reader.proofs.four.Goals as goal

pub returns : goal.returns
returns c = c.from_be_bytes.ensures ∙ be_four_bytes c.args.s.now c.args.at
