-- `lmcp::table` meets its contract: the constant is what the rows come to, in either version.
use Rattle.wire.proofs.Basics.{sym, ap, eq-eqb, ne_eqb}
use Rattle.lmcp.specs.Packed.{packed_by}
use Rattle.lmcp.proofs.table.Goals as goal

pub returns-then-version-eq2 : goal.returns-then-version-eq2
unfolding packed_by
returns-then-version-eq2 c = ap packed_by (sym (eq-eqb _ 2 c.if-version-eq2.true))

pub returns : goal.returns
unfolding packed_by
returns c = ap packed_by (sym (ne_eqb _ 2 c.if-version-eq2.false))
