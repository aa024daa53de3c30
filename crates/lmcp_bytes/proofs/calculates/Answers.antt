-- The first byte of the head. Assumes nothing.
use Rattle.wire.proofs.Basics.{ap, ℕ, not, eqb}
use Rattle.lmcp_bytes.proofs.calculates.Goals as goal

pub returns : goal.returns
returns c = ap (λ (n : ℕ). not (eqb n 0)) c.number.ensures.value
