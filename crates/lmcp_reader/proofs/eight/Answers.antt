-- `lmcp_reader::eight` meets its contract.
use Rattle.wire.proofs.Basics.{◌∙◌}
use Rattle.lmcp.proofs.Widths.{be_eight_bytes}
use Rattle.lmcp_reader.proofs.eight.Goals as goal

pub returns : goal.returns
returns c = c.from_be_bytes.ensures ∙ be_eight_bytes c.args.s.now c.args.at
