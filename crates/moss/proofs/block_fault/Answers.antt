-- What is wrong with message blocks: the type, then the walk. Assumes nothing.
use Rattle.wire.proofs.Basics.{sym}
use Rattle.std.proofs.lemmas.Result.{err_from_is_err_and}
use Rattle.moss.proofs.Faults.{fault-type, fault-broken, fault-filled}
use Rattle.moss.proofs.block_fault.Goals as goal

pub returns-in_err-kind : goal.returns-in_err-kind
returns-in_err-kind c =
    let a = c.args in
    let p = err_from_is_err_and c.from_residual.result c.from_residual.ensures.1 in
    let e = c.in_err-kind.ensures in
    rw (p.1, p.2, e.0) (sym (fault-type a.kind a.blocks.now e.1))

pub returns-in_err-walk_kind : goal.returns-in_err-walk_kind
returns-in_err-walk_kind c =
    let a = c.args in
    let p = err_from_is_err_and c.from_residual-in_err-walk_kind.result c.from_residual-in_err-walk_kind.ensures.1 in
    rw (p.1, p.2) (sym (fault-broken a.kind a.blocks.now c.in_ok-kind.kind c.in_ok-kind.ensures _ (sym c.in_err-walk_kind.ensures)))

pub returns : goal.returns
returns c =
    let a = c.args in
    sym (fault-filled a.kind a.blocks.now c.in_ok-kind.kind c.in_ok-kind.ensures _ (sym c.in_ok-walk_kind.ensures))
