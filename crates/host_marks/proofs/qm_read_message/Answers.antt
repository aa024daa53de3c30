-- By whether there is room for the number that tells, and by the reader's answer. Assumes nothing.
use Rattle.wire.proofs.Basics.{◌∙◌, sym, ap}
use Rattle.lmcp.specs.Found.{Refused, found_told}
use Rattle.host_marks.proofs.Telling.{not-read, read-numbers, read-refused}
use Rattle.host_marks.proofs.qm_read_message.Goals as goal

pub returns-then-told-lt1 : goal.returns-then-told-lt1
returns-then-told-lt1 c =
    let a = c.args in
    not-read a.message.now a.numbers.now a.told.now c.if-told-lt1.true

pub returns-in-Ok : goal.returns-in-Ok
returns-in-Ok c =
    let a = c.args in
    read-numbers a.message.now a.numbers.now a.told.now c.if-told-lt1.false (found_told c.read_message.result) _ c.read_message.ensures _ (ap found_told c.in-Ok.is) _ c.put_word.ensures

pub returns-in-Err : goal.returns-in-Err
returns-in-Err c =
    let a = c.args in
    read-refused a.message.now a.numbers.now a.told.now c.if-told-lt1.false (found_told c.read_message.result) _ c.read_message.ensures _ (ap found_told c.in-Err.is ∙ ap Refused (sym c.number.ensures))
