-- L11's most, and its batches. Assumes nothing.
use Rattle.wire.proofs.Basics.{ℕ, length-replicate, arith}
use Rattle.index_builder.proofs.Answers.{adds-batch}
use Rattle.index_builder.proofs.add.Goals as goal

pub returns : goal.returns
returns c = adds-batch c.add_within.ensures (omega (arith, length-replicate {A = ℕ} 192 0))
