-- `flight_log::next_entry` meets its contract: three numbers, then the datagram. Assumes nothing.
use Rattle.wire.proofs.Basics.{◌∙◌, sym, ap, refl}
use Rattle.std.proofs.lemmas.Result.{err_from_is_err_and}
use Rattle.varint.proofs.Sevens.{number-taken, number-refused}
use Rattle.flight_log.specs.Said.{step_of}
use Rattle.flight_log.proofs.Reading.{next-end, next_here, entry_follows, tick-follows, length-follows, entry-refused, tick-refused, length-refused}
use Rattle.flight_log.proofs.reader.next_entry.Goals as goal

pub returns-then-log-at : goal.returns-then-log-at
returns-then-log-at c =
    let a = c.args in
    sym (next-end a.log.now a.at c.if-log-at.true)

pub datagram_at-requires : goal.datagram_at-requires
datagram_at-requires c =
    (number-taken c.args.log.now c.in_ok-tick.to_length _ _ (λ i. (c.type_inv.log i).fits) _ c.in_ok-n.ensures refl).within

pub returns : goal.returns
returns c =
    let log = c.args.log.now in
    let f = number-taken log c.args.at _ _ (λ i. (c.type_inv.log i).fits) _ c.in_ok-sender.ensures refl in
    let g = number-taken log c.in_ok-sender.to_tick _ _ (λ i. (c.type_inv.log i).fits) _ c.in_ok-tick.ensures refl in
    let h = number-taken log c.in_ok-tick.to_length _ _ (λ i. (c.type_inv.log i).fits) _ c.in_ok-n.ensures refl in
    c.datagram_at.ensures
    ∙ sym (next_here log c.args.at c.if-log-at.false ∙ ap (step_of log) (entry_follows _ _ _ f.is ∙ tick-follows _ _ _ _ g.is ∙ length-follows _ _ _ _ _ h.is))

pub returns-in_err-sender : goal.returns-in_err-sender
returns-in_err-sender c =
    let log = c.args.log.now in
    let p = err_from_is_err_and c.from_residual.result c.from_residual.ensures.1 in
    let r = number-refused log c.args.at _ _ c.in_err-sender.ensures refl in
    rw (p.1, p.2) (sym (next_here log c.args.at c.if-log-at.false ∙ ap (step_of log) (entry-refused _ _ r)))

pub returns-in_err-tick : goal.returns-in_err-tick
returns-in_err-tick c =
    let log = c.args.log.now in
    let p = err_from_is_err_and c.from_residual-in_err-tick.result c.from_residual-in_err-tick.ensures.1 in
    let f = number-taken log c.args.at _ _ (λ i. (c.type_inv.log i).fits) _ c.in_ok-sender.ensures refl in
    let r = number-refused log c.in_ok-sender.to_tick _ _ c.in_err-tick.ensures refl in
    rw (p.1, p.2) (sym (next_here log c.args.at c.if-log-at.false ∙ ap (step_of log) (entry_follows _ _ _ f.is ∙ tick-refused _ _ _ r)))

pub returns-in_err-n : goal.returns-in_err-n
returns-in_err-n c =
    let log = c.args.log.now in
    let p = err_from_is_err_and c.from_residual-in_err-n.result c.from_residual-in_err-n.ensures.1 in
    let f = number-taken log c.args.at _ _ (λ i. (c.type_inv.log i).fits) _ c.in_ok-sender.ensures refl in
    let g = number-taken log c.in_ok-sender.to_tick _ _ (λ i. (c.type_inv.log i).fits) _ c.in_ok-tick.ensures refl in
    let r = number-refused log c.in_ok-tick.to_length _ _ c.in_err-n.ensures refl in
    rw (p.1, p.2)
    (sym (next_here log c.args.at c.if-log-at.false ∙ ap (step_of log) (entry_follows _ _ _ f.is ∙ tick-follows _ _ _ _ g.is ∙ length-refused _ _ _ _ r)))
