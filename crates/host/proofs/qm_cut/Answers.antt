-- `host::qm_cut` meets its contract. Assumes nothing.
use Rattle.wire.proofs.Basics.{sym, arith}
use Rattle.cutter.proofs.Sizes.{made, made-short}
use Rattle.host.proofs.qm_cut.Goals as goal

pub overflow_mul-result : goal.overflow_mul-result
overflow_mul-result c =
    let d = made _ _ _ _ _ _ _ (sym c.in-Ok.ensures.answer) in
    omega (arith, d.plan.few)

pub overflow_add-result : goal.overflow_add-result
overflow_add-result c =
    let d = made _ _ _ _ _ _ _ (sym c.in-Ok.ensures.answer) in
    omega (arith, d.plan.few, made-short _ _ _ _ _ _ _ d)
