-- The rows from a place on, or the refusal of the head. Assumes nothing.
use Rattle.wire.proofs.Basics.{sym}
use Rattle.std.proofs.lemmas.Result.{err_from_is_err_and}
use Rattle.log_index.specs.Index.{rows_added}
use Rattle.index_builder.proofs.Answers.{head-added, head-after, adds_same, stops}
use Rattle.index_builder.proofs.extend.Goals as goal

pub returns : goal.returns
returns c =
    let a = c.args in
    let e = head-added a.log.now _ a.from _ (sym c.in_ok-limits.ensures) in
    adds_same _ _ a.index.now a.n _ _ e c.add.ensures

pub returns-in_err-limits : goal.returns-in_err-limits
returns-in_err-limits c =
    let a = c.args in
    let p = err_from_is_err_and c.from_residual.result c.from_residual.ensures.1 in
    let e = head-after a.log.now a.from _ (sym c.in_err-limits.ensures) in
    rw (p.1, p.2) (stops (rows_added a.log.now a.from) a.index.now a.n _ e)
