-- `flight_log::read_on` meets its contract. Assumes nothing.
use Rattle.wire.proofs.Basics.{◌∙◌, sym}
use Rattle.std.proofs.lemmas.Result.{err_from_is_err_and}
use Rattle.flight_log.proofs.Reading.{read-on, read_first, read-refused}
use Rattle.flight_log.proofs.reader.read_on.Goals as goal

pub returns-then-at-ne0 : goal.returns-then-at-ne0
returns-then-at-ne0 c =
    let a = c.args in
    c.next_entry.ensures ∙ sym (read-on a.log.now a.at c.if-at-ne0.true)

pub returns : goal.returns
returns c =
    let a = c.args in
    c.next_entry-2.ensures ∙ sym (read_first a.log.now a.at _ _ c.if-at-ne0.false (sym c.in_ok-start.ensures))

pub returns-in_err-start : goal.returns-in_err-start
returns-in_err-start c =
    let a = c.args in
    let p = err_from_is_err_and c.from_residual.result c.from_residual.ensures.1 in
    rw (p.1, p.2) (sym (read-refused a.log.now a.at _ c.if-at-ne0.false (sym c.in_err-start.ensures)))
