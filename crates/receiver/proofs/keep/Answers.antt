-- `receiver::keep` meets its contract. Assumes nothing.
use Rattle.wire.proofs.Basics.{refl}
use Rattle.receiver_state.proofs.Moves.{kept}
use Rattle.receiver.proofs.keep.Goals as goal

pub returns : goal.returns
returns c =
    let args = c.args in
    kept args.state.now args.names.now c.requires.1 args.s c.requires.0 args.d.now args.h c.requires.2.short c.hold_fragment.new.held _ _ c.as_size.result _ _ refl refl
    c.as_size.ensures.0 c.hold_fragment.ensures refl c.put_name.ensures
