-- The head, the order, the room, and then the rows. Assumes nothing.
use Rattle.wire.proofs.Basics.{◌∙◌, sym, arith}
use Rattle.std.proofs.lemmas.Result.{err_from_is_err_and}
use Rattle.index_file.proofs.Answers.{reads_other, reads_unsorted, reads_short, reads_all_lem}
use Rattle.index_file.proofs.read_rows.Goals as goal

pub returns-in_err-n : goal.returns-in_err-n
returns-in_err-n c =
    let p = err_from_is_err_and c.from_residual.result c.from_residual.ensures.1 in
    rw (p.1, p.2) (reads_other c.args.file.now c.args.index.now _ (sym c.in_err-n.ensures))

pub returns-then-not-in_order : goal.returns-then-not-in_order
returns-then-not-in_order c =
    reads_unsorted _ _ _ _ (sym c.in_ok-n.ensures) (sym c.in_order.ensures ∙ c.if-not-in_order.true)

pub returns-then-index-n : goal.returns-then-index-n
returns-then-index-n c =
    reads_short _ _ _ _ (sym c.in_ok-n.ensures) (sym c.in_order.ensures ∙ c.if-not-in_order.false) (omega (arith, c.if-index-n.true))

pub returns : goal.returns
returns c =
    reads_all_lem _ _ _ _ (sym c.in_ok-n.ensures) (sym c.in_order.ensures ∙ c.if-not-in_order.false) (omega (arith, c.if-index-n.false)) _ c.copy_rows.ensures
