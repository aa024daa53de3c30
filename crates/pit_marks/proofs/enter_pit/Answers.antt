-- A pit, by what entering it answers, and by whether it is sure. Assumes nothing.
use Rattle.std.proofs.lemmas.Result.{err_from_is_err_and}
use Rattle.pit_marks.proofs.EnteringCases.{none-of, some-of, pit-full, pit-unsure, sure-full, sure-now}
use Rattle.pit_marks.proofs.enter_pit.Goals as goal

pub returns-in_err-sets-clause-left : goal.returns-in_err-sets-clause-left
returns-in_err-sets-clause-left c =
    let a = c.args in
    let s = a.sets.now in
    let n = none-of c.enter.result _ _ _ c.ok_or.ensures.value c.in_err-sets.was in
    let p = err_from_is_err_and c.from_residual.result c.from_residual.ensures.1 in
    rw (p.1, p.2, n.1) (pit-full a.is_sure a.x s.pits.now s.sure.now s.sizes c.enter.result _ c.enter.ensures n.0)

pub returns-in_err-sets-2-clause-left : goal.returns-in_err-sets-2-clause-left
returns-in_err-sets-2-clause-left c =
    let a = c.args in
    let s = a.sets.now in
    let n = some-of c.enter.result _ _ _ c.ok_or.ensures.value c.in_ok-sets.was in
    let f = none-of c.enter-then-is_sure.result _ _ _ c.ok_or-then-is_sure.ensures.value c.in_err-sets-2.was in
    let p = err_from_is_err_and c.from_residual-in_err-sets-2.result c.from_residual-in_err-sets-2.ensures.1 in
    rw (p.1, p.2, f.1) (sure-full a.is_sure a.x s.pits.now s.sure.now s.sizes c.enter.result _ c.enter.ensures _ n c.if-is_sure.true c.enter-then-is_sure.result _ c.enter-then-is_sure.ensures f.0)

pub returns-in_ok-sets-2-clause-left : goal.returns-in_ok-sets-2-clause-left
returns-in_ok-sets-2-clause-left c =
    let a = c.args in
    let s = a.sets.now in
    let n = some-of c.enter.result _ _ _ c.ok_or.ensures.value c.in_ok-sets.was in
    let m = some-of c.enter-then-is_sure.result _ _ _ c.ok_or-then-is_sure.ensures.value c.in_ok-sets-2.was in
    sure-now a.is_sure a.x s.pits.now s.sure.now s.sizes c.enter.result _ c.enter.ensures _ n c.if-is_sure.true c.enter-then-is_sure.result _ c.enter-then-is_sure.ensures _ m

pub returns-else-is_sure-clause-left : goal.returns-else-is_sure-clause-left
returns-else-is_sure-clause-left c =
    let a = c.args in
    let s = a.sets.now in
    let n = some-of c.enter.result _ _ _ c.ok_or.ensures.value c.in_ok-sets.was in
    pit-unsure a.is_sure a.x s.pits.now s.sure.now s.sizes c.enter.result _ c.enter.ensures _ n c.if-is_sure.false
