-- By the mark's type and the type of its place. Assumes nothing.
use Rattle.wire.proofs.Basics.{◌∙◌, sym, ◌≡◌, ap}
use Rattle.wire.specs.Choice.{pick}
use Rattle.pit_marks.proofs.ElementTurn.{length-null, length-nowhere, length-somewhere}
use Rattle.pit_marks.proofs.element_length.Goals.{then-two, else-two}
use Rattle.pit_marks.proofs.element_length.Goals as goal

pub returns-then-number_at-eq0 : goal.returns-then-number_at-eq0
returns-then-number_at-eq0 c = length-null c.args.two c.args.elements.now (sym c.number_at.ensures ∙ c.if-number_at-eq0.true)

pub returns-then-number_at-eq0-2 : goal.returns-then-number_at-eq0-2
returns-then-number_at-eq0-2 c =
    let a = c.args in
    let d : c.if-two.depth ≡ pick a.two 1 0 = elim c.if-two.branch [ then-two w ↦ w.depth-is ∙ ap (λ b. pick b 1 0) (sym w.if-two.true) | else-two w ↦ w.depth-is ∙ ap (λ b. pick b 1 0) (sym w.if-two.false) ] in
    length-nowhere a.two a.elements.now (λ e. c.if-number_at-eq0.false (c.number_at.ensures ∙ e)) c.if-two.depth d (sym c.number_at-2.ensures ∙ c.if-number_at-eq0-2.true)

pub returns-else-number_at-eq0-2 : goal.returns-else-number_at-eq0-2
returns-else-number_at-eq0-2 c =
    let a = c.args in
    let d : c.if-two.depth ≡ pick a.two 1 0 = elim c.if-two.branch [ then-two w ↦ w.depth-is ∙ ap (λ b. pick b 1 0) (sym w.if-two.true) | else-two w ↦ w.depth-is ∙ ap (λ b. pick b 1 0) (sym w.if-two.false) ] in
    length-somewhere a.two a.elements.now (λ e. c.if-number_at-eq0.false (c.number_at.ensures ∙ e)) c.if-two.depth d (λ e. c.if-number_at-eq0-2.false (c.number_at-2.ensures ∙ e))
