-- The rows behind the head, or its refusal. Assumes nothing.
use Rattle.wire.proofs.Basics.{sym, refl}
use Rattle.std.proofs.lemmas.Result.{err_from_is_err_and}
use Rattle.log_index.specs.Index.{rows_in}
use Rattle.index_builder.proofs.Answers.{head_rows, head-stops, indexes, stops}
use Rattle.index_builder.proofs.index_log.Goals as goal

pub returns : goal.returns
returns c =
    let a = c.args in
    indexes a.log.now a.index.now _ _ _ (head_rows a.log.now _ _ (sym c.in_ok-first.ensures)) c.add.ensures

pub returns-in_err-first : goal.returns-in_err-first
returns-in_err-first c =
    let a = c.args in
    let p = err_from_is_err_and c.from_residual.result c.from_residual.ensures.1 in
    let e = head-stops a.log.now _ (sym c.in_err-first.ensures) in
    rw (p.1, p.2) (indexes a.log.now a.index.now _ _ _ refl (stops (rows_in a.log.now) a.index.now 0 _ e))
