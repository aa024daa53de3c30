-- By whether the number stands there, and whether there is room. Assumes nothing.
use Rattle.wire.proofs.Basics.{arith}
use Rattle.sorted_set.proofs.Sets.{rank_most}
use Rattle.sorted_set.proofs.Enterings.{there-at, full_at, found-new, new-at}
use Rattle.sorted_set.proofs.enter.Goals as goal

pub returns-in_default : goal.returns-in_default
returns-in_default c =
    let a = c.args in
    there-at a.w.now a.n a.x c.find.result c.find.ensures c.min-m.result c.min-m.ensures _ c.in_default.is

pub returns-then-m-w : goal.returns-then-m-w
returns-then-m-w c =
    let a = c.args in
    full_at a.w.now a.n a.x c.find.result c.find.ensures c.min-m.result c.min-m.ensures _ c.in-Err.is c.if-m-w.true

pub insert-requires : goal.insert-requires
insert-requires c =
    let a = c.args in
    let f = found-new a.w.now a.n a.x c.find.result c.find.ensures c.min-m.result c.min-m.ensures _ c.in-Err.is in
    let e = c.min-m.ensures in
    (omega (arith, f.here, rank_most a.w.now a.x a.n), omega arith)

pub returns : goal.returns
returns c =
    let a = c.args in
    new-at a.w.now a.n a.x c.find.result c.find.ensures c.min-m.result c.min-m.ensures _ c.in-Err.is c.if-m-w.false _ c.insert.ensures
