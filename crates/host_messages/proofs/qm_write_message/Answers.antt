-- By whether there is room for the number that tells, and by the writer's answer. Assumes nothing.
use Rattle.wire.proofs.Basics.{ap, refl}
use Rattle.lmcp.specs.Made.{made_told}
use Rattle.host_messages.proofs.Telling.{write-short, write-told}
use Rattle.host_messages.proofs.qm_write_message.Goals as goal

pub returns-then-told-lt1 : goal.returns-then-told-lt1
returns-then-told-lt1 c = write-short _ _ _ _ c.if-told-lt1.true

pub returns-in-Ok : goal.returns-in-Ok
returns-in-Ok c =
    write-told _ _ _ _ c.if-told-lt1.false (made_told c.write_message.result) _ _ c.write_message.ensures (ap made_told c.in-Ok.is) _ _ refl c.put_word.ensures

pub returns-in-Err : goal.returns-in-Err
returns-in-Err c =
    write-told _ _ _ _ c.if-told-lt1.false (made_told c.write_message.result) _ _ c.write_message.ensures (ap made_told c.in-Err.is) _ _ c.number.ensures refl
