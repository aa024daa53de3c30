-- An element, by whether it is null. Assumes nothing.
use Rattle.wire.proofs.Basics.{◌∙◌, sym, ap, ℕ, not, eqb}
use Rattle.pit_marks.specs.Enters.{key_in}
use Rattle.pit_marks.proofs.EnteringCases.{element-null, element-mark}
use Rattle.pit_marks.proofs.enter_element.Goals as goal

pub returns-then-number_at-eq0-clause-left : goal.returns-then-number_at-eq0-clause-left
returns-then-number_at-eq0-clause-left c =
    let a = c.args in
    let s = a.sets.now in
    element-null a.tile a.elements.now s.pits.now s.sure.now s.sizes (sym c.number_at.ensures ∙ c.if-number_at-eq0.true)

pub returns-clause-left : goal.returns-clause-left
returns-clause-left c =
    let a = c.args in
    let s = a.sets.now in
    element-mark a.tile a.elements.now s.pits.now s.sure.now s.sizes (λ e. c.if-number_at-eq0.false (c.number_at.ensures ∙ e)) _ _
    (ap (λ (n : ℕ). not (eqb n 0)) c.number_at-is_sure.ensures) (c.key_of.ensures ∙ ap (key_in a.tile) c.number_at-2.ensures) _ _ _ c.enter_pit.ensures.left
