-- `lmcp_check::check_message` meets its contract: the frame, and then the root.
use Rattle.wire.proofs.Basics.{sym, refl, ◌≤◌, ◌-◌, length, length-drop, length-take, arith}
use Rattle.std.proofs.lemmas.Result.{err_from_is_err_and}
use Rattle.refusals.specs.Numbers.{number_of}
use Rattle.refusals.proofs.Names.{some_number}
use Rattle.lmcp_check.specs.Refusal.{told}
use Rattle.lmcp_check.proofs.Roots.{root, root-same, frame-within, wrong-frame, wrong-root}
use Rattle.lmcp_check.proofs.check_message.Goals as goal

pub returns-in_err-frame_of : goal.returns-in_err-frame_of
returns-in_err-frame_of c =
    let r = c.in_err-frame_of.field-0.0 in
    let p = err_from_is_err_and c.from_residual.result c.from_residual.ensures.1 in
    rw (p.1, p.2) (wrong-frame c.args.message.now (number_of r) c.in_err-frame_of.ensures (λ z. (let y : ⊥ = omega (arith, some_number r, z) in y)))

pub overflow_sub-end : goal.overflow_sub-end
overflow_sub-end c = omega (arith, (frame-within c.args.message.now (sym c.in_ok-frame_of.ensures)).0)

pub slice_bounds-s-count : goal.slice_bounds-s-count
slice_bounds-s-count c = omega (arith, (frame-within c.args.message.now (sym c.in_ok-frame_of.ensures)).0)

pub slice_bounds-s-start : goal.slice_bounds-s-start
slice_bounds-s-start c = let k : 8 ≤ length c.args.message.now - 4 = omega (arith, (frame-within c.args.message.now (sym c.in_ok-frame_of.ensures)).0) in k

pub check_root-requires : goal.check_root-requires
check_root-requires c =
    let n : length (root c.args.message.now) ≤ length c.args.message.now = rw (length-take, length-drop) (omega arith) in
    omega (arith, n, (frame-within c.args.message.now (sym c.in_ok-frame_of.ensures)).1)

pub returns : goal.returns
returns c =
    let m = c.args.message.now in
    wrong-root m 0 c.in_ok-frame_of.ensures refl (root m) (root-same m) c.version_of.result c.version_of.ensures (told c.check_root.result) c.check_root.ensures
