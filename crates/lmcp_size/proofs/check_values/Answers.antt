use Rattle.wire.proofs.Basics.{◌-◌, [], drop}
use Rattle.std.proofs.lemmas.Result.{err_from_is_err_and}
use Rattle.lmcp.specs.Run.{repeat}
use Rattle.lmcp.specs.Write.{write_value}
use Rattle.lmcp.specs.InsideEnds.{Few15}
use Rattle.lmcp.proofs.WalkPlaces.{begins, repeat-all, items-turn, items-stop, items-end}
use Rattle.lmcp_size.proofs.check_values.Goals as goal

pub loop-init : goal.loop-init
loop-init c =
    let a = c.args in
    begins (repeat (a.n - 0) (write_value a.kind a.w)) a.from.p a.from.q [] (repeat-all (write_value a.kind a.w) (drop a.from.p a.list.now) a.n) c.requires.0.place c.requires.0.inside

pub check_value-requires : goal.check_value-requires
check_value-requires c =
    let x = c.loop in
    (record { place = x.invariant.fewer; inside = x.invariant.within }, c.requires.1)

pub returns-in_err-spot : goal.returns-in_err-spot
returns-in_err-spot c =
    let a = c.args in
    let x = c.loop in
    let p = err_from_is_err_and c.from_residual.result c.from_residual.ensures.1 in
    rw (p.1, p.2) (items-stop Few15 (write_value a.kind a.w) a.n x.counter x.invariant c.loop-test.true c.check_value.result [] c.check_value.ensures _ c.in_err-spot.was)

pub loop-preserved : goal.loop-preserved
loop-preserved c =
    let a = c.args in
    let x = c.loop in
    items-turn Few15 (write_value a.kind a.w) a.n x.counter x.invariant c.loop-test.true c.check_value.result [] c.check_value.ensures _ c.in_ok-spot.was

pub returns : goal.returns
returns c =
    let a = c.args in
    let x = c.loop in
    items-end Few15 (write_value a.kind a.w) a.n x.counter x.invariant c.loop-test.false
