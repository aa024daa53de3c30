-- By whether there is room for the number that tells, and by the writer's answer. Assumes nothing.
use Rattle.wire.proofs.Basics.{refl}
use Rattle.host_acks.proofs.Telling.{write-short, write-told}
use Rattle.host_acks.proofs.qm_acks_write.Goals as goal

pub returns-then-told-lt1 : goal.returns-then-told-lt1
returns-then-told-lt1 c = rw c.number.ensures (write-short _ _ _ c.if-told-lt1.true)

pub returns-in-Ok : goal.returns-in-Ok
returns-in-Ok c = write-told _ _ _ c.if-told-lt1.false _ _ c.in-Ok.ensures _ _ refl c.put_word.ensures

pub returns-in-Err : goal.returns-in-Err
returns-in-Err c = write-told _ _ _ c.if-told-lt1.false _ _ c.in-Err.ensures _ _ c.number-in-Err.ensures refl
