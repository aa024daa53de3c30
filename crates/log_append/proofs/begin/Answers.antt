-- `log_append::begin` meets its contract. Assumes nothing.
use Rattle.wire.proofs.Basics.{◌∙◌, ap, length, arith}
use Rattle.log_append.proofs.Writing.{seven-most, begin-over, begin-short, begin-good, begin-length}
use Rattle.log_append.proofs.begin.Goals as goal

pub returns-then-limit : goal.returns-then-limit
returns-then-limit c =
    let a = c.args in
    begin-over a.out.now a.limit c.if-limit.true

pub overflow_add-n : goal.overflow_add-n
overflow_add-n c = omega (arith, seven-most c.args.limit)

pub returns-then-out-n : goal.returns-then-out-n
returns-then-out-n c =
    let a = c.args in
    begin-short a.out.now a.limit c.if-limit.false (omega (arith, c.if-out-n.true, c.seven_length-n.ensures))

pub shape_of-out : goal.shape_of-out
shape_of-out c =
    let a = c.args in
    ap length c.put_seven.ensures ∙ begin-length a.out.now a.limit _

pub returns : goal.returns
returns c =
    let a = c.args in
    begin-good a.out.now a.limit c.seven_length-n.result _ c.if-limit.false c.seven_length-n.ensures c.if-out-n.false c.put_seven.ensures
