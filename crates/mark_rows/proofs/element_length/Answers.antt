-- By the element's type, the type of its place and the version. Assumes nothing.
use Rattle.wire.proofs.Basics.{◌∙◌, sym, ap, ℕ, not, drop, eqb, arith}
use Rattle.wire.specs.Choice.{pick}
use Rattle.mark_rows.proofs.Lengths.{length-null, length-one, length_two, depth-most}
use Rattle.mark_rows.proofs.element_length.Goals as goal

pub returns-then-size_at-eq0 : goal.returns-then-size_at-eq0
returns-then-size_at-eq0 c =
    let a = c.args in
    length-null a.two (drop a.place a.list.now) (sym c.size_at.ensures ∙ c.if-size_at-eq0.true)

pub overflow_add-result : goal.overflow_add-result
overflow_add-result c =
    record { fits = omega (arith, c.depth_place-end.ensures, depth-most (not (eqb c.size_at-2.result 0))) }

pub returns-then-two : goal.returns-then-two
returns-then-two c =
    let a = c.args in
    length_two a.two (drop a.place a.list.now) (λ e. c.if-size_at-eq0.false (c.size_at.ensures ∙ e)) c.depth_place-end.result
    (c.depth_place-end.ensures ∙ ap (λ (k : ℕ). pick (not (eqb k 0)) 7 4) c.size_at-2.ensures) c.if-two.true

pub returns-else-two : goal.returns-else-two
returns-else-two c =
    let a = c.args in
    length-one a.two (drop a.place a.list.now) (λ e. c.if-size_at-eq0.false (c.size_at.ensures ∙ e)) c.depth_place-end.result
    (c.depth_place-end.ensures ∙ ap (λ (k : ℕ). pick (not (eqb k 0)) 7 4) c.size_at-2.ensures) c.if-two.false
