-- `receiver::stay` meets its contract. Assumes nothing.

use Rattle.receiver.proofs.stay.Goals as goal

pub returns : goal.returns
returns c =
    let no_name = c.no_name in
    rw no_name.ensures
