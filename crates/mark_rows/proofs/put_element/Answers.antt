-- Null, or a mark. Assumes nothing.
use Rattle.wire.proofs.Basics.{◌∙◌, sym, ◌≡◌, ap, List, length, drop, ℤ, arith}
use Rattle.mark_rows.proofs.RowsLaid.{mark-one, null-laid, mark-laid}
use Rattle.mark_rows.proofs.put_element.Goals as goal

pub returns-then-size_at-eq0 : goal.returns-then-size_at-eq0
returns-then-size_at-eq0 c =
    let a = c.args in
    null-laid a.two (drop a.place a.list.now) a.rows.now a.q (sym c.size_at.ensures ∙ c.if-size_at-eq0.true)

pub put_numbers-requires : goal.put_numbers-requires
put_numbers-requires c =
    let k : length c.row_at-row.result ≡ 8 = ap (λ (z : List ℤ). length z) c.row_at-row.ensures in
    omega (arith, c.requires, mark-one c.args.two (drop c.args.place c.args.list.now) (λ e. c.if-size_at-eq0.false (c.size_at.ensures ∙ e)))

pub returns : goal.returns
returns c =
    let a = c.args in
    mark-laid a.two (drop a.place a.list.now) a.rows.now _ c.row_at-row.result a.q (λ e. c.if-size_at-eq0.false (c.size_at.ensures ∙ e)) c.row_at-row.ensures c.put_numbers.ensures
