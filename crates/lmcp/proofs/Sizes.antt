-- A signed number that goes through its bits. Assumes nothing.
use Rattle.wire.proofs.Basics.{◌≡◌, ℤ}
use mir.Syntax.{w64}
use mir.Val.{to_z, of_z, SFits}
use mir.ValLaws.{to_z-of_z}

-- a number that went through its bits
pub through : (z : ℤ) → SFits w64 z → to_z w64 (of_z w64 z) ≡ z
through z f = to_z-of_z w64 z f
