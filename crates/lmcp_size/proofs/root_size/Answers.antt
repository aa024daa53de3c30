-- `lmcp_size::root_size` meets its contract: the walk, and the refusals in their order.
use Rattle.wire.proofs.Basics.{arith}
use Rattle.std.proofs.lemmas.Result.{err_from_is_err_and}
use Rattle.lmcp_size.proofs.Answers.{answer-stopped, answer-left, answer-long, answer-good}
use Rattle.lmcp_size.proofs.root_size.Goals as goal

pub returns-in_err-root : goal.returns-in_err-root
returns-in_err-root c =
    let a = c.args in
    let p = err_from_is_err_and c.from_residual.result c.from_residual.ensures.1 in
    rw (p.1, p.2) (answer-stopped a.version a.list.now _ c.in_err-root.ensures)

pub returns-then-root-list : goal.returns-then-root-list
returns-then-root-list c =
    let a = c.args in
    answer-left a.version a.list.now c.in_ok-root.root.p c.in_ok-root.root.q c.in_ok-root.ensures c.if-root-list.true

pub overflow_add-size : goal.overflow_add-size
overflow_add-size c =
    let w = c.in_ok-root.ensures in
    record { fits = omega (arith, w.fewer, w.within, c.well_formed.0.1) }

pub returns-then-size-gt-MAX_MESSAGE : goal.returns-then-size-gt-MAX_MESSAGE
returns-then-size-gt-MAX_MESSAGE c =
    let a = c.args in
    answer-long a.version a.list.now c.in_ok-root.root.p c.in_ok-root.root.q c.in_ok-root.ensures c.if-root-list.false c.if-size-gt-MAX_MESSAGE.true

pub returns : goal.returns
returns c =
    let a = c.args in
    answer-good a.version a.list.now c.in_ok-root.root.p c.in_ok-root.root.q c.in_ok-root.ensures c.if-root-list.false c.if-size-gt-MAX_MESSAGE.false
