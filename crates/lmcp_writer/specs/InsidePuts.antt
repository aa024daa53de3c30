-- The contracts of the walk that writes: the list is in order, and the output has room. Definitions only.
use Rattle.std.specs.Prelude.{◌≡◌, Bool, List, [], ◌∷◌, ◌++◌, ℕ, zero, suc, ◌+◌, ℤ, length}
use Rattle.wire.specs.Bytes.{bytes}
use Rattle.wire.specs.Overlay.{overlay}
use Rattle.wire.specs.Signed.{unsigned}
use Rattle.lmcp.specs.Run.{got}
use Rattle.lmcp.specs.Message.{message_on}
use Rattle.lmcp_size.specs.InsideSteps.{write_object}

-- the low w bytes of each of n numbers
abbrev pub spelled : ℕ → ℕ → List ℤ → List ℕ
spelled zero w l = []
spelled (suc n) w [] = []
spelled (suc n) w (z ∷ l) = bytes w (unsigned 64 z) ++ spelled n w l

-- the message of what the walk of the list makes, where its root ends at that place, lies at the start of the output
abbrev pub Laid : ℕ → List ℤ → Bool → ℕ → List ℕ → List ℕ → Type 0
Laid v l calculate end out out' = (bs : List ℕ) (r : List ℤ) → write_object v 16 0 l ≡ got bs r → end ≡ 8 + length bs → out' ≡ overlay out 0 (message_on calculate bs)
