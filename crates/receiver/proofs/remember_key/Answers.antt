-- `receiver::remember_key` meets its contract. Assumes nothing.
use Rattle.wire.proofs.Basics.{refl}
use Rattle.receiver_state.proofs.Remembers.{remembers}
use Rattle.receiver.proofs.remember_key.Goals as goal

pub returns : goal.returns
returns c =
    let args = c.args in
    remembers args.state.now c.requires args.sender args.sequence args.sequence c.remember.new.memory _ refl c.remember.ensures refl
