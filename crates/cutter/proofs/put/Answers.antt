-- `cutter::put` meets its contract. Assumes nothing.
use Rattle.wire.proofs.Basics.{◌∙◌, ◌≡◌, ap, ℕ, min, arith}
use Rattle.wire.specs.Bytes.{bytes}
use Rattle.wire.specs.Overlay.{overlay}
use Rattle.cutter.proofs.put.Goals as goal

pub returns : goal.returns
returns c =
    let a = c.args in
    let e : min a.k 8 ≡ a.k = omega (arith, c.requires) in
    c.put_number.ensures ∙ ap (λ (k : ℕ). overlay a.out.now a.at (bytes k a.v)) e
