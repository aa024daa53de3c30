-- The head, the covered length, the first and the last row, and then the key. Assumes nothing.
use Rattle.wire.proofs.Basics.{◌∙◌, sym, ap}
use Rattle.std.proofs.lemmas.Result.{err_from_is_err_and}
use Rattle.index_file.proofs.Answers.{told-refused}
use Rattle.index_look.specs.Looked.{Refused}
use Rattle.index_look.proofs.Steps.{looks_46, looks_longer, looks_astray, looks-found}
use Rattle.index_look.proofs.look_up.Goals as goal

pub returns-in_err-covered : goal.returns-in_err-covered
returns-in_err-covered c =
    let a = c.args in
    let p = err_from_is_err_and c.from_residual.result c.from_residual.ensures.1 in
    let h = sym c.in_err-covered.ensures in
    rw (p.1, p.2) (ap Refused (told-refused a.file.now _ h).number ∙ looks_46 a.log.now a.file.now a.sender a.sequence _ h)

pub returns-then-log-covered : goal.returns-then-log-covered
returns-then-log-covered c =
    let a = c.args in
    looks_longer a.log.now a.file.now a.sender a.sequence _ _ (sym c.in_ok-covered.ensures) c.if-log-covered.true

pub returns-then-not-ends_lead : goal.returns-then-not-ends_lead
returns-then-not-ends_lead c =
    let a = c.args in
    looks_astray a.log.now a.file.now a.sender a.sequence _ _ (sym c.in_ok-covered.ensures) c.if-log-covered.false (sym c.ends_lead.ensures ∙ c.if-not-ends_lead.true)

pub returns : goal.returns
returns c =
    let a = c.args in
    looks-found a.log.now a.file.now a.sender a.sequence _ _ (sym c.in_ok-covered.ensures) c.if-log-covered.false (sym c.ends_lead.ensures ∙ c.if-not-ends_lead.false)
    _ c.find_in.result c.find_in.ensures c.judge.ensures
