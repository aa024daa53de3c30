-- `datagram::four` meets its contract. Assumes nothing.
use Rattle.wire.proofs.Basics.{get_or-drop, arith}
use Rattle.wire.specs.Bytes.{be}
use native.Mathlib.Nat.{add-zero}
use Rattle.datagram.proofs.four.Goals as goal

pub returns : goal.returns
unfolding be
returns c = simp (get_or-drop, add-zero) (omega (arith, c.from_be_bytes.ensures))
