-- `host_count::qm_count` meets its contract. Assumes nothing.
use Rattle.wire.proofs.Basics.{◌∙◌, sym, ap}
use Rattle.count.specs.Answer.{Counted}
use Rattle.count.specs.Counts.{loan, told}
use Rattle.host_count.proofs.Telling.{code_by, left_by, not-counted, told_as-counted}
use Rattle.host_count.proofs.qm_count.Goals as goal

pub returns-then-report-lt-REPORT : goal.returns-then-report-lt-REPORT
returns-then-report-lt-REPORT c =
    let a = c.args in not-counted a.log.now (loan a.store.now a.ledger.now a.numbers.now) a.report.now c.if-report-lt-REPORT.true

pub returns-in-Ok : goal.returns-in-Ok
returns-in-Ok c =
    let a = c.args in
    let e = ap told c.in-Ok.is in
    told_as-counted a.log.now (loan a.store.now a.ledger.now a.numbers.now) a.report.now c.if-report-lt-REPORT.false c.count_log.ensures (sym (ap (λ (z : Counted). code_by z.answer) e))
    (c.put_report.ensures ∙ sym (ap (λ (z : Counted). left_by z.answer z.report a.report.now) e))

pub returns-in-Err : goal.returns-in-Err
returns-in-Err c =
    let a = c.args in
    let e = ap told c.in-Err.is in
    told_as-counted a.log.now (loan a.store.now a.ledger.now a.numbers.now) a.report.now c.if-report-lt-REPORT.false c.count_log.ensures (c.number.ensures ∙ sym (ap (λ (z : Counted). code_by z.answer) e))
    (sym (ap (λ (z : Counted). left_by z.answer z.report a.report.now) e))
