-- Assumes nothing.
use Rattle.wire.proofs.Basics.{◌∙◌, sym, ap, List, length, drop}
use Rattle.mark_rows.specs.Placed.{PlacedMark}
use Rattle.mark_rows.proofs.RowsLaid.{null-none, mark-one}
use Rattle.mark_rows.proofs.marks_at.Goals as goal

pub returns-then-size_at-eq0 : goal.returns-then-size_at-eq0
returns-then-size_at-eq0 c =
    let a = c.args in
    sym (ap (λ (ms : List PlacedMark). length ms) (null-none a.two (drop a.place a.list.now) (sym c.size_at.ensures ∙ c.if-size_at-eq0.true)))

pub returns-else-size_at-eq0 : goal.returns-else-size_at-eq0
returns-else-size_at-eq0 c =
    let a = c.args in
    sym (mark-one a.two (drop a.place a.list.now) (λ e. c.if-size_at-eq0.false (c.size_at.ensures ∙ e)))
