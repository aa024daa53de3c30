-- By what the survey found. Assumes nothing.
use Rattle.wire.proofs.Basics.{ap, refl}
use Rattle.std.proofs.lemmas.Result.{err_from_is_err_and}
use Rattle.count.specs.Inside.{surveyed_told}
use Rattle.count.proofs.Ends.{refused-first, is_whole}
use Rattle.count.proofs.count_log.Goals as goal

pub afresh-requires : goal.afresh-requires
afresh-requires c =
    let a = c.args in
    is_whole a.log.now (surveyed_told c.survey.result) c.survey.ensures _ (ap surveyed_told c.in_ok-entries.was)

pub returns-in_err-entries : goal.returns-in_err-entries
returns-in_err-entries c =
    let a = c.args in
    let p = err_from_is_err_and c.from_residual.result c.from_residual.ensures.1 in
    rw (p.1, p.2) (refused-first a.log.now a.store.now a.ledger.now a.numbers.now (surveyed_told c.survey.result) c.survey.ensures _ (ap surveyed_told c.in_err-entries.was) _ refl)
