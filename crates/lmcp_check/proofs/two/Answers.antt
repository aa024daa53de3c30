-- `lmcp_check::two` meets its contract.
use Rattle.wire.proofs.Basics.{◌∙◌, arith}
use Rattle.lmcp.proofs.Widths.{be_two_bytes}
use Rattle.lmcp_check.proofs.two.Goals as goal

pub returns : goal.returns
returns c = let e = c.from.ensures ∙ c.from_be_bytes.ensures ∙ be_two_bytes c.args.s.now c.args.at in (e, omega (arith, c.from.ensures, c.from_be_bytes.type_inv))
