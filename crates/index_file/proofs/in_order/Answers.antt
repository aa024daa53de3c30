use Rattle.wire.proofs.Basics.{◌∙◌, sym, ◌-◌, arith}
use Rattle.log_index.specs.Rows.{earlier}
use Rattle.index_file.specs.File.{file_row}
use Rattle.index_file.proofs.Sorted.{order-none, order-next, order-broken, order-fewer}
use Rattle.index_file.proofs.in_order.Goals as goal

pub loop-i-init : goal.loop-i-init
loop-i-init c = order-none (file_row c.args.file.now)

pub returns-then-is_before : goal.returns-then-is_before
returns-then-is_before c =
    let a = c.args in
    let i = c.loop-i.i in
    let e = (λ j. earlier (sym c.row_at-row.ensures j) (sym c.row_at-before.ensures j)) ∙ sym c.is_before.ensures ∙ c.if-is_before.true in
    sym (order-broken (file_row a.file.now) a.n i (i - 1) (omega arith) (omega arith) e)

pub loop-i-preserved : goal.loop-i-preserved
loop-i-preserved c =
    let a = c.args in
    let i = c.loop-i.i in
    let e = (λ j. earlier (sym c.row_at-row.ensures j) (sym c.row_at-before.ensures j)) ∙ sym c.is_before.ensures ∙ c.if-is_before.false in
    order-next (file_row a.file.now) i (i - 1) (omega arith) c.loop-i.invariant e

pub returns : goal.returns
returns c =
    let a = c.args in
    sym (order-fewer (file_row a.file.now) c.loop-i.i a.n (omega arith) c.loop-i.invariant)
