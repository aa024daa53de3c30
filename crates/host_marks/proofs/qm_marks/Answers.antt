-- By whether there is room for the numbers that tell, and by what the numbers are. Assumes nothing.
use Rattle.wire.proofs.Basics.{◌∙◌, sym, ap, refl}
use Rattle.std.proofs.Common.{Ok}
use Rattle.mark_rows.specs.Rows.{Refused, rows_told}
use Rattle.host_marks.proofs.Telling.{not-marked, marks-some, marks-refused}
use Rattle.host_marks.proofs.qm_marks.Goals as goal

pub returns-then-told-lt-MARKS : goal.returns-then-told-lt-MARKS
returns-then-told-lt-MARKS c =
    let a = c.args in
    not-marked a.numbers.now a.rows.now a.told.now c.if-told-lt-MARKS.true

pub returns-in-Ok-Some : goal.returns-in-Ok-Some
returns-in-Ok-Some c =
    let a = c.args in
    marks-some a.numbers.now a.rows.now a.told.now c.if-told-lt-MARKS.false (rows_told c.marks_of.result) _ c.marks_of.ensures _ (ap rows_told (c.in-Ok-Some.is ∙ ap Ok c.in-Ok-Some.field-0-is)) refl _ c.put_words.ensures

pub returns-in-Ok-None : goal.returns-in-Ok-None
returns-in-Ok-None c =
    let a = c.args in
    marks-some a.numbers.now a.rows.now a.told.now c.if-told-lt-MARKS.false (rows_told c.marks_of.result) _ c.marks_of.ensures _ (ap rows_told (c.in-Ok-None.is ∙ ap Ok c.in-Ok-None.field-0-is)) refl _ c.put_words-in-Ok-None.ensures

pub returns-in-Err : goal.returns-in-Err
returns-in-Err c =
    let a = c.args in
    marks-refused a.numbers.now a.rows.now a.told.now c.if-told-lt-MARKS.false (rows_told c.marks_of.result) _ c.marks_of.ensures _ (ap rows_told c.in-Err.is ∙ ap Refused (sym c.number.ensures))
