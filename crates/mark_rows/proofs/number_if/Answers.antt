-- Assumes nothing.
use Rattle.wire.proofs.Basics.{◌∙◌}
use Rattle.lmcp.proofs.Sizes.{through}
use Rattle.mark_rows.proofs.number_if.Goals as goal

pub returns-then-some : goal.returns-then-some
returns-then-some c =
    let n = c.number_at in
    rw c.if-some.true (through n.result (record { sfits = n.type_inv }) ∙ n.ensures)

pub returns : goal.returns
returns c = rw c.if-some.false
