-- `wire::put_number` meets its contract. Assumes nothing.
use Rattle.wire.proofs.Basics.{◌∙◌, ap, ℕ}
use Rattle.wire.specs.Bytes.{bytes}
use Rattle.wire.specs.Overlay.{overlay}
use Rattle.wire.proofs.put_number.Goals as goal

pub returns : goal.returns
returns c =
    let a = c.args in
    c.put_low.ensures ∙ ap (λ (k : ℕ). overlay a.out.now a.at (bytes k a.v)) c.min.ensures
