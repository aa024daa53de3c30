-- `receiver::begin` meets its contract. Assumes nothing.
use Rattle.receiver.proofs.Ends.{begun}
use Rattle.receiver.proofs.begin.Goals as goal

pub returns : goal.returns
returns c =
    let args = c.args in
    begun args.state.now args.names.now args.sender args.h c.take_seat-seat.result _ _ _ _ c.take_seat-seat.ensures c.occupy.ensures
