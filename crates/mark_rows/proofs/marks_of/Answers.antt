-- By whether it is a list, and whether there is room for its rows. Assumes nothing.
use Rattle.wire.proofs.Basics.{ap, ℕ, eqb}
use Rattle.mark_rows.proofs.RowsGiven.{no-list, no_room, rows-given}
use Rattle.mark_rows.proofs.marks_of.Goals as goal

pub returns-then-not-is_list : goal.returns-then-not-is_list
returns-then-not-is_list c =
    let a = c.args in
    no-list a.list.now a.rows.now c.is_list.result c.is_list.ensures (c.if-not-is_list.true)

pub returns-then-rows-n : goal.returns-then-rows-n
returns-then-rows-n c =
    let a = c.args in
    no_room a.list.now a.rows.now c.is_list.result c.is_list.ensures (c.if-not-is_list.false) _ (ap (λ (k : ℕ). eqb k 2) c.size_at-two.ensures) c.count_marks-n.result c.count_marks-n.ensures c.if-rows-n.true

pub returns : goal.returns
returns c =
    let a = c.args in
    rows-given a.list.now a.rows.now c.is_list.result c.is_list.ensures (c.if-not-is_list.false) _ (ap (λ (k : ℕ). eqb k 2) c.size_at-two.ensures) c.count_marks-n.result c.count_marks-n.ensures
    c.if-rows-n.false c.size_at.result c.size_at.ensures _ c.put_rows.ensures
