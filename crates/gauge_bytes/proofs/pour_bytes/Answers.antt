-- The first bytes of the packet in hexadecimal. Assumes nothing.
use Rattle.wire.proofs.Basics.{ap, List, ℕ, [], ◌∷◌, ◌++◌}
use Rattle.text.specs.Text.{hex}
use Rattle.output.proofs.Adding.{adds_then, adds_is}
use Rattle.gauge_bytes.proofs.pour_bytes.Goals as goal

pub returns : goal.returns
returns c =
    adds_is (adds_then (adds_then c.pour.ensures c.pour_hex.ensures) c.pour-2.ensures)
    (ap (λ (l : List ℕ). (32 ∷ 98 ∷ 121 ∷ 116 ∷ 101 ∷ 115 ∷ 32 ∷ []) ++ hex l ++ 10 ∷ []) c.part.ensures)
