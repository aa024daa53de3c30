-- By whether there is room for the numbers that tell, and by where the message lies. Assumes nothing.
use Rattle.wire.proofs.Basics.{refl}
use Rattle.host_gauge.proofs.Packing.{place_short, place-told}
use Rattle.host_gauge.proofs.qm_moss_message.Goals as goal

pub returns-then-told-lt-MESSAGE : goal.returns-then-told-lt-MESSAGE
returns-then-told-lt-MESSAGE c = rw c.number.ensures (place_short _ _ _ c.if-told-lt-MESSAGE.true)

pub returns-in-Ok : goal.returns-in-Ok
returns-in-Ok c = place-told _ _ _ c.if-told-lt-MESSAGE.false _ c.in-Ok.ensures _ _ refl c.put_words.ensures

pub returns-in-Err : goal.returns-in-Err
returns-in-Err c = place-told _ _ _ c.if-told-lt-MESSAGE.false _ c.in-Err.ensures _ _ c.number-in-Err.ensures refl
