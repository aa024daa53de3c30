-- Assumes nothing.
use Rattle.wire.proofs.Basics.{◌∙◌, sym, ◌≡◌, ap, refl, ◌<◌, arith, rules}
use Rattle.std.proofs.Common.{Ok}
use Rattle.refusals.specs.Numbers.{number_of}
use Rattle.flight_log.specs.Step.{step_told}
use Rattle.flight_log.specs.Step as step
use Rattle.stretch.specs.declared.Totals.{Totals}
use Rattle.stretch.specs.Stop as stop
use Rattle.stretch.specs.Told.{stop_told}
use Rattle.stretch.specs.Inside.{ran}
use Rattle.stretch.proofs.Faults.{no_zero, none-told}
use Rattle.stretch.proofs.MidStretch.{going-first, going-few, all-taken, log-stops, going_more, going-ends, counts-so}
use Rattle.stretch.proofs.count_on.Invariants.{lent_of}
use Rattle.stretch.proofs.count_on.Goals as goal

pub loop-taken-init : goal.loop-taken-init
loop-taken-init c =
    let a = c.args in
    let D = lent_of a.state.now a.names.now a.store.now a.ledger.now a.numbers.now a.sets.now in
    record {
      same = record { for-tiles = refl; for-pits = refl; for-sure = refl };
      going = going-first a.log.now c.limits_in-limits.result a.most a.place D c.held-sets.result _ (ap (λ (t : Totals). ran 0 t c.held-sets.result) c.nothing-totals.ensures);
    }

pub one_entry-entered-requires : goal.one_entry-entered-requires
one_entry-entered-requires c =
    let a = c.args in
    let l = c.loop-taken in
    let D = lent_of a.state.now a.names.now a.store.now a.ledger.now a.numbers.now a.sets.now in
    let o : l.taken < a.most = omega arith in
    going-few a.log.now c.limits_in-limits.result a.most a.place D c.held-sets.result _ l.at l.taken (ran 0 l.totals l.sets.sizes) l.invariant.going o c.ranges.most.fits

pub returns-in-Ok-None-clause-counts : goal.returns-in-Ok-None-clause-counts
returns-in-Ok-None-clause-counts c =
    let a = c.args in
    let l = c.loop-taken in
    let D = lent_of a.state.now a.names.now a.store.now a.ledger.now a.numbers.now a.sets.now in
    let o : l.taken < a.most = omega arith in
    let q = sym c.read_on.ensures ∙ ap step_told (c.in-Ok-None.is ∙ ap Ok c.in-Ok-None.field-0-is) in
    counts-so c.stopped.result stop.End _ _ (ran 0 l.totals l.sets.sizes) (ap stop_told c.stopped.ensures.stop) c.stopped.ensures.place c.stopped.ensures.entries c.stopped.ensures.totals c.stopped.ensures.sizes
    (log-stops a.log.now c.limits_in-limits.result a.most a.place D c.held-sets.result _ l.at l.taken (ran 0 l.totals l.sets.sizes) l.invariant.going c.limits_in-limits.ensures a.sets.now.sizes c.held-sets.ensures o step.End q (λ e z. cc))

pub returns-in-Err-clause-counts : goal.returns-in-Err-clause-counts
returns-in-Err-clause-counts c =
    let a = c.args in
    let l = c.loop-taken in
    let D = lent_of a.state.now a.names.now a.store.now a.ledger.now a.numbers.now a.sets.now in
    let o : l.taken < a.most = omega arith in
    let q = sym c.read_on.ensures ∙ ap step_told c.in-Err.is in
    counts-so c.stopped-in-Err.result (stop.Broken _) _ _ (ran 0 l.totals l.sets.sizes) (ap stop_told c.stopped-in-Err.ensures.stop) c.stopped-in-Err.ensures.place c.stopped-in-Err.ensures.entries c.stopped-in-Err.ensures.totals c.stopped-in-Err.ensures.sizes
    (log-stops a.log.now c.limits_in-limits.result a.most a.place D c.held-sets.result _ l.at l.taken (ran 0 l.totals l.sets.sizes) l.invariant.going c.limits_in-limits.ensures a.sets.now.sizes c.held-sets.ensures o (step.Refused _) q (λ e z. cc))

pub returns-in-Err-entered-clause-counts : goal.returns-in-Err-entered-clause-counts
returns-in-Err-entered-clause-counts c =
    let a = c.args in
    let l = c.loop-taken in
    let D = lent_of a.state.now a.names.now a.store.now a.ledger.now a.numbers.now a.sets.now in
    let o : l.taken < a.most = omega arith in
    let q = sym c.read_on.ensures ∙ ap step_told (c.in-Ok-Some.is ∙ ap Ok c.in-Ok-Some.field-0-is) in
    let T = rw c.in-Err-entered.is at c.one_entry-entered.ensures.takes in
    let x = c.stopped-in-Err-entered in
    counts-so x.result _ _ _ (ran (number_of c.in-Err-entered.e) c.one_entry-entered.new.totals c.one_entry-entered.new.sets.sizes) (ap stop_told x.ensures.stop) x.ensures.place x.ensures.entries x.ensures.totals x.ensures.sizes
    (going-ends a.log.now c.limits_in-limits.result a.most a.place D c.held-sets.result _ l.at l.taken (ran 0 l.totals l.sets.sizes) l.invariant.going o c.in-Ok-Some.entry q _ _ T c.limits_in-limits.ensures a.sets.now.sizes c.held-sets.ensures (no_zero _))

pub loop-taken-preserved : goal.loop-taken-preserved
loop-taken-preserved c =
    let a = c.args in
    let l = c.loop-taken in
    let D = lent_of a.state.now a.names.now a.store.now a.ledger.now a.numbers.now a.sets.now in
    let o : l.taken < a.most = omega arith in
    let q = sym c.read_on.ensures ∙ ap step_told (c.in-Ok-Some.is ∙ ap Ok c.in-Ok-Some.field-0-is) in
    let z = none-told c.one_entry-entered.result c.in_default.not-Err in
    record {
      same = search rules;
      going = going_more a.log.now c.limits_in-limits.result a.most a.place D c.held-sets.result _ l.at l.taken (ran 0 l.totals l.sets.sizes) l.invariant.going o c.in-Ok-Some.entry q _ _ (rw z at c.one_entry-entered.ensures.takes) refl;
    }

pub returns-clause-counts : goal.returns-clause-counts
returns-clause-counts c =
    let a = c.args in
    let l = c.loop-taken in
    let D = lent_of a.state.now a.names.now a.store.now a.ledger.now a.numbers.now a.sets.now in
    let e : l.taken ≡ a.most = omega arith in
    let x = c.stopped-2 in
    counts-so x.result stop.Taken _ _ (ran 0 l.totals l.sets.sizes) (ap stop_told x.ensures.stop) x.ensures.place (x.ensures.entries ∙ sym e) x.ensures.totals x.ensures.sizes
    (all-taken a.log.now c.limits_in-limits.result a.most a.place D c.held-sets.result _ l.at l.taken (ran 0 l.totals l.sets.sizes) l.invariant.going c.limits_in-limits.ensures a.sets.now.sizes c.held-sets.ensures (λ o. omega arith))
