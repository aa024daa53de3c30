-- Assumes nothing.
use Rattle.wire.proofs.Basics.{◌∙◌, sym, ◌≡◌, ap, refl, ◌<◌, ◌≤◌, List, length, eqb-true, eqb-false, arith, rules}
use Rattle.std.proofs.lemmas.Result.{err_from_is_err_and}
use Rattle.count_rules.specs.Marks.{Mark, mark_length, mark_at}
use Rattle.pit_marks.specs.Enters.{enter_marks}
use Rattle.pit_marks.proofs.EnteringCases.{as_said, then-on, then-refused, all-entered}
use Rattle.pit_marks.proofs.ElementTurn.{takes_one, less-left, left-fits, turned, marks-end}
use Rattle.pit_marks.proofs.enter_elements.Goals as goal

pub returns-in_err-enter_element-clause-left : goal.returns-in_err-enter_element-clause-left
returns-in_err-enter_element-clause-left c =
    let a = c.args in
    let l = c.loop-rest in
    let s = l.sets in
    let m = turned a.two l.rest.now _ _ c.nulls_in.result (mark_length a.two _) _ c.nulls_in.ensures.many refl refl refl refl in
    let p = err_from_is_err_and c.from_residual.result c.from_residual.ensures.1 in
    rw (p.1, p.2) (as_said (sym l.invariant.3 ∙ ap (λ (ms : List Mark). enter_marks a.tile ms s.pits.now s.sure.now s.sizes) m)
    (then-refused a.tile (mark_at _) _ s.pits.now s.sure.now s.sizes _ _ _ (rw c.in_err-enter_element.was at c.enter_element.ensures.left) _ _ refl))

pub loop-rest-smaller : goal.loop-rest-smaller
loop-rest-smaller c =
    let l = c.loop-rest in
    let z : length l.rest.now ≡ 0 → ⊥ = eqb-false (length l.rest.now) 0 (sym c.is_empty.ensures ∙ c.loop-rest-test.true) in
    let o : 0 < length l.rest.now = omega arith in
    let t : 1 ≤ c.element_length.result = rw c.element_length.ensures (takes_one c.args.two _) in
    less-left l.rest.now _ _ c.nulls_in.result c.element_length.result c.min.result o refl t c.min.ensures refl

pub loop-rest-preserved : goal.loop-rest-preserved
loop-rest-preserved c =
    let a = c.args in
    let l = c.loop-rest in
    let s = l.sets in
    let m = turned a.two l.rest.now _ _ c.nulls_in.result c.element_length.result c.min.result c.nulls_in.ensures.many refl c.element_length.ensures c.min.ensures refl in
    let rest-fits = left-fits l.rest.now _ _ c.nulls_in.result c.min.result (length a.elements.now) l.invariant.2 refl refl in
    let o = then-on a.tile (mark_at _) _ s.pits.now s.sure.now s.sizes _ _ _ (rw c.in_ok-enter_element.was at c.enter_element.ensures.left) _ refl in
    (search rules, search rules, rest-fits, sym o ∙ (ap (λ (ms : List Mark). enter_marks a.tile ms s.pits.now s.sure.now s.sizes) (sym m) ∙ l.invariant.3))

pub returns-clause-left : goal.returns-clause-left
returns-clause-left c =
    let a = c.args in
    let l = c.loop-rest in
    let s = l.sets in
    let o : length l.rest.now ≡ 0 = eqb-true (length l.rest.now) 0 (sym c.is_empty.ensures ∙ c.loop-rest-test.false) in
    as_said (sym l.invariant.3 ∙ ap (λ (ms : List Mark). enter_marks a.tile ms s.pits.now s.sure.now s.sizes) (marks-end a.two l.rest.now o)) (all-entered a.tile s.pits.now s.sure.now s.sizes)
