-- `host_receiver::no_room` meets its contract. Assumes nothing.
use Rattle.host_receiver.proofs.Telling.{lacks-numbers, has-numbers}
use Rattle.host_receiver.proofs.no_room.Goals as goal

pub returns-then-told-lt-OUTCOME : goal.returns-then-told-lt-OUTCOME
returns-then-told-lt-OUTCOME c = lacks-numbers c.args.told.now c.args.name.now c.if-told-lt-OUTCOME.true

pub returns : goal.returns
returns c = has-numbers c.args.told.now c.args.name.now c.if-told-lt-OUTCOME.false
