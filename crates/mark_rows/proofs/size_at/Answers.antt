-- Assumes nothing.
use Rattle.wire.proofs.Basics.{◌∙◌, ap}
use lib.Signed.{mag}
use Rattle.lmcp.proofs.Sizes.{through}
use Rattle.mark_rows.proofs.size_at.Goals as goal

pub returns : goal.returns
returns c =
    let n = c.number_at in
    c.size_of.ensures ∙ ap mag (through n.result (record { sfits = n.type_inv }) ∙ n.ensures)
