use Rattle.wire.proofs.Basics.{◌<◌, length, drop, arith}
use Rattle.mark_rows.proofs.RowsLaid.{at_most_one}
use Rattle.mark_rows.proofs.RowTurn.{goes_on_lem, turn-long, end-long}
use Rattle.mark_rows.proofs.count_marks.Goals as goal

pub loop-place-init : goal.loop-place-init
loop-place-init c = (omega arith, omega arith)

pub overflow_add-n : goal.overflow_add-n
overflow_add-n c =
    let a = c.args in
    record { fits = omega (arith, c.loop-place.invariant.0, c.loop-place-test.true, c.marks_at-n.ensures, at_most_one a.two (drop c.loop-place.place a.list.now), c.well_formed) }

pub loop-place-smaller : goal.loop-place-smaller
loop-place-smaller c =
    let a = c.args in
    let h : c.loop-place.place < length a.list.now = c.loop-place-test.true in
    let g : c.loop-place.place < c.next_place-place.result = goes_on_lem a.two a.list.now c.loop-place.place c.next_place-place.result h c.next_place-place.ensures in
    omega arith

pub loop-place-preserved : goal.loop-place-preserved
loop-place-preserved c =
    let a = c.args in
    let h : c.loop-place.place < length a.list.now = c.loop-place-test.true in
    let g : c.loop-place.place < c.next_place-place.result = goes_on_lem a.two a.list.now c.loop-place.place c.next_place-place.result h c.next_place-place.ensures in
    let o = at_most_one a.two (drop c.loop-place.place a.list.now) in
    let t = turn-long a.two a.list.now c.loop-place.place c.next_place-place.result h c.next_place-place.ensures in
    (omega (arith, c.loop-place.invariant.0, c.marks_at-n.ensures), omega (arith, c.loop-place.invariant.1, c.marks_at-n.ensures))

pub returns : goal.returns
returns c =
    let a = c.args in
    omega (arith, c.loop-place.invariant.1, end-long a.two a.list.now c.loop-place.place c.loop-place-test.false)
