-- `wire::part` meets its contract. Assumes nothing.
use Rattle.wire.proofs.Basics.{◌∙◌, ◌≡◌, ap, ◌+◌, ◌-◌, min, arith}
use Rattle.wire.proofs.Parts.{part-least}
use Rattle.wire.proofs.part.Goals as goal

pub returns : goal.returns
returns c =
    let a = c.args in
    let e : c.min-a.result + c.min.result - c.min-a.result ≡ c.min.result = omega arith in
    rw e (part-least a.s.now a.at a.n _ _ c.min-a.ensures (c.min.ensures ∙ ap (min a.n) c.room.ensures))
