-- The three numbers of a row, or zeros. Assumes nothing.
use Rattle.wire.proofs.Basics.{arith}
use Rattle.index_file.proofs.Steps.{row-none, row-some}
use Rattle.index_file.proofs.row_at.Goals as goal

pub returns-then-n-i : goal.returns-then-n-i
returns-then-n-i c =
    let a = c.args in
    let e = c.saturating_sub-n.ensures in
    row-none a.file.now a.i (omega (arith, e, c.if-n-i.true))

pub returns : goal.returns
returns c =
    let a = c.args in
    let e = c.saturating_sub-n.ensures in
    row-some a.file.now a.i _ _ _ (omega (arith, e, c.if-n-i.false)) c.number.ensures c.number-2.ensures c.number-3.ensures
