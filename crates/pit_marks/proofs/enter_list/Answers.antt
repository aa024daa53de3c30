-- A list: its tile before its pits. Assumes nothing.
use Rattle.wire.proofs.Basics.{◌∙◌, sym, ap, ℕ, List, drop, length, ℤ}
use Rattle.lmcp.specs.Table.{second}
use Rattle.count_rules.specs.Marks.{marks_in}
use Rattle.pit_marks.specs.Enters.{enter_marks, with_tiles}
use Rattle.pit_marks.proofs.ElementTurn.{tail-is, behind-head}
use Rattle.std.proofs.lemmas.Result.{err_from_is_err_and}
use Rattle.pit_marks.specs.Told.{sets_in}
use Rattle.pit_marks.proofs.EnteringCases.{none-of, some-of, as_said, tile-full, tile-now}
use Rattle.pit_marks.proofs.enter_list.Goals as goal

pub returns-in_err-sets-clause-enters : goal.returns-in_err-sets-clause-enters
returns-in_err-sets-clause-enters c =
    let a = c.args in
    let s = a.sets.now in
    let n = none-of c.enter.result _ _ _ c.ok_or.ensures.value c.in_err-sets.was in
    let p = err_from_is_err_and c.from_residual.result c.from_residual.ensures.1 in
    rw (p.1, p.2, n.1) (tile-full a.list.now (sets_in s) s.sizes c.number_at-tile.result c.number_at-tile.ensures c.enter.result _ c.enter.ensures n.0)

pub returns-clause-enters : goal.returns-clause-enters
returns-clause-enters c =
    let a = c.args in
    let s = a.sets.now in
    let n = some-of c.enter.result _ _ _ c.ok_or.ensures.value c.in_ok-sets.was in
    let k = c.min.ensures in
    let d = tail-is c.min.result a.list.now ∙ (ap (λ (i : ℕ). drop i a.list.now) k ∙ behind-head a.list.now) in
    let L = as_said (ap (λ (l : List ℤ). enter_marks c.number_at-tile.result (marks_in (second c.number_at-two.result) (length l) l) s.pits.now s.sure.now (with_tiles c.in_ok-sets.field-0 s.sizes)) (sym d)) c.enter_elements.ensures.left in
    rw c.enter_elements.ensures.tiles (tile-now a.list.now (sets_in s) s.sizes c.number_at-tile.result c.number_at-tile.ensures c.enter.result _ c.enter.ensures _ n c.number_at-two.result c.number_at-two.ensures _ _ _ L)
