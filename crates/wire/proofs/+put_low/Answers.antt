use Rattle.wire.proofs.Basics.{◌∙◌, sym, ◌≡◌, ap, ℕ, ◌+◌, ◌-◌, ◌%◌, List, set, arith}
use Rattle.wire.specs.Bytes.{bytes}
use Rattle.wire.specs.Overlay.{overlay}
use Rattle.wire.proofs.Overlays.{overlay-nil, overlay-number}
use Rattle.wire.proofs.+put_low.Goals as goal

pub returns-then-k-gt0 : goal.returns-then-k-gt0
returns-then-k-gt0 t c =
    let a = c.args in
    let high = c.put_low.ensures in
    c.put_byte.ensures ∙ ap (λ (x : List ℕ). set x (a.at + (a.k - 1)) (a.v % 256)) high ∙ overlay-number a.out.now a.at a.k a.v c.if-k-gt0.true

pub returns-else-k-gt0 : goal.returns-else-k-gt0
unfolding bytes
returns-else-k-gt0 t c =
    let a = c.args in
    let z : 0 ≡ a.k = omega (arith, c.if-k-gt0.false) in
    sym (overlay-nil a.out.now a.at) ∙ ap (λ (k : ℕ). overlay a.out.now a.at (bytes k a.v)) z
