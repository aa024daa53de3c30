-- `wire::put_all` meets its contract. Assumes nothing.
use Rattle.wire.proofs.Basics.{arith}
use Rattle.wire.proofs.Overlays.{overlay-part}
use Rattle.wire.proofs.put_all.Goals as goal

pub returns : goal.returns
returns g c =
    let a = c.args in
    overlay-part a.out.now a.at a.src.now c.min-a.result c.min-n.result _ c.copy_from_slice.new.self (omega arith) (omega arith) c.copy_from_slice.ensures.after (omega arith)
