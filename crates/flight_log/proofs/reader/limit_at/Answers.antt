-- `flight_log::reader::limit_at` meets its contract. Assumes nothing.
use Rattle.wire.proofs.Basics.{◌∙◌, sym, ap, refl}
use Rattle.std.proofs.lemmas.Result.{err_from_is_err_and}
use Rattle.varint.proofs.Sevens.{number-taken, number-refused}
use Rattle.flight_log.specs.Said.{first_of}
use Rattle.flight_log.proofs.Reading.{limit-follows, limit-refused}
use Rattle.flight_log.proofs.reader.limit_at.Goals as goal

pub within-requires : goal.within-requires
within-requires c =
    (number-taken c.args.log.now c.args.at _ _ (λ i. (c.type_inv.log i).fits) _ c.in_ok-limit.ensures refl).within

pub returns : goal.returns
returns c =
    let a = c.args in
    let f = number-taken a.log.now a.at _ _ (λ i. (c.type_inv.log i).fits) _ c.in_ok-limit.ensures refl in
    c.within.ensures ∙ ap (first_of a.log.now) (sym (limit-follows _ _ _ f.is))

pub returns-in_err-limit : goal.returns-in_err-limit
returns-in_err-limit c =
    let a = c.args in
    let p = err_from_is_err_and c.from_residual.result c.from_residual.ensures.1 in
    rw (p.1, p.2) (sym (ap (first_of a.log.now) (limit-refused _ _ (number-refused a.log.now a.at _ _ c.in_err-limit.ensures refl))))
