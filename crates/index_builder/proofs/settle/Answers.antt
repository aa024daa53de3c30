-- A full batch, or not. Assumes nothing.
use Rattle.wire.proofs.Basics.{◌∙◌, ap, refl, length, arith}
use Rattle.log_index.proofs.Batches.{rows-length}
use Rattle.index_builder.proofs.settle.Goals as goal

pub returns-then-m-batch : goal.returns-then-m-batch
returns-then-m-batch c =
    let t = c.if-m-batch.true in
    record { sum = refl; size = refl; waits = λ h. (refl, refl); settles = λ h. absurd (omega (arith, t, h)) }

pub returns : goal.returns
returns c =
    let m = c.merge.ensures in
    let t = c.if-m-batch.false in
    record { sum = omega arith; size = ap length m ∙ rows-length _ _ _ _; waits = λ h. absurd (omega (arith, t, h)); settles = λ h. (refl, m) }
