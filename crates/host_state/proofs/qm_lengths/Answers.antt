-- `host_state::qm_lengths` meets its contract. Assumes nothing.
use Rattle.wire.proofs.Basics.{refl, arith, le-ltb, lt-ltb}
use Rattle.wire.proofs.Overlays.{overlay-part}
use Rattle.host_state.specs.Lengths.{lengths_are}
use Rattle.host_state.proofs.qm_lengths.Goals as goal

pub returns-then-lengths-lt-LENGTHS : goal.returns-then-lengths-lt-LENGTHS
returns-then-lengths-lt-LENGTHS c =
    let t = lt-ltb _ 10 c.if-lengths-lt-LENGTHS.true in
    record { gave = rw t c.number.ensures; left = rw t }

pub returns : goal.returns
returns c =
    let fits = c.if-lengths-lt-LENGTHS.false in
    let t = le-ltb _ 10 fits in
    record { gave = rw t; left = rw t (overlay-part c.args.lengths.now 0 lengths_are 0 10 10 _ (omega arith) (omega (arith, fits)) c.copy_from_slice.ensures.after refl) }
