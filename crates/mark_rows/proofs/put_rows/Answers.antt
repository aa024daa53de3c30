use Rattle.wire.proofs.Basics.{◌∙◌, sym, ap, refl, ℕ, ◌<◌, List, ◌++◌, length, drop, sets, arith}
use Rattle.mark_rows.specs.Placed.{PlacedMark, placed_at}
use Rattle.mark_rows.specs.Rows.{rows_of}
use Rattle.mark_rows.specs.InsideRows.{placed_from}
use Rattle.mark_rows.proofs.RowsLaid.{then-laid}
use Rattle.mark_rows.proofs.RowTurn.{placed-turn, placed_end, goes_on_lem, turn-long}
use Rattle.mark_rows.proofs.put_rows.Goals as goal

pub loop-place-init : goal.loop-place-init
loop-place-init c = (refl, (omega (arith, c.requires), refl))

pub put_element-q-requires : goal.put_element-q-requires
put_element-q-requires c =
    let a = c.args in
    omega (arith, c.loop-place.invariant.0, c.loop-place.invariant.1.0, turn-long a.two a.list.now c.loop-place.place _ c.loop-place-test.true refl)

pub loop-place-smaller : goal.loop-place-smaller
loop-place-smaller c =
    let a = c.args in
    let h : c.loop-place.place < length a.list.now = c.loop-place-test.true in
    let g : c.loop-place.place < c.next_place-place.result = goes_on_lem a.two a.list.now c.loop-place.place c.next_place-place.result h c.next_place-place.ensures in
    omega arith

pub loop-place-preserved : goal.loop-place-preserved
loop-place-preserved c =
    let a = c.args in
    let h : c.loop-place.place < length a.list.now = c.loop-place-test.true in
    let d = drop c.loop-place.place a.list.now in
    let e = turn-long a.two a.list.now c.loop-place.place c.next_place-place.result h c.next_place-place.ensures in
    let q = placed-turn a.two a.list.now c.loop-place.place h in
    let o = then-laid (placed_at a.two d) (placed_from a.two a.list.now c.next_place-place.result) c.loop-place.rows c.loop-place.q _ _ c.put_element-q.ensures in
    let n = ap (λ (k : ℕ). placed_at a.two d ++ placed_from a.two a.list.now k) c.next_place-place.ensures ∙ sym q in (
      c.put_element-q.auto.rows ∙ c.loop-place.invariant.0,
      (
        omega (arith, c.loop-place.invariant.1.0, c.put_element-q.ensures.next),
        o ∙ (ap (λ (ms : List PlacedMark). sets c.loop-place.rows c.loop-place.q (rows_of ms)) n ∙ c.loop-place.invariant.1.1),
      ),
    )

pub returns : goal.returns
returns c =
    let l = c.loop-place in
    let a = c.args in
    sym (ap (λ (ms : List PlacedMark). sets l.rows l.q (rows_of ms)) (placed_end a.two a.list.now l.place c.loop-place-test.false)) ∙ l.invariant.1.1
