-- By whether the session is whole and there is room for the number that tells, and by the writer's answer. Assumes nothing.
use Rattle.wire.proofs.Basics.{refl}
use Rattle.host_gauge.proofs.Packing.{session-short, write-short, write-told}
use Rattle.host_gauge.proofs.qm_moss_write.Goals as goal

pub returns-then-session-lt-SESSION : goal.returns-then-session-lt-SESSION
returns-then-session-lt-SESSION c = rw c.number.ensures (session-short _ _ _ _ _ _ c.if-session-lt-SESSION.true)

pub returns-then-told-lt1 : goal.returns-then-told-lt1
returns-then-told-lt1 c = rw c.number-then-told-lt1.ensures (write-short _ _ _ _ _ _ c.if-told-lt1.true)

pub returns-in-Ok : goal.returns-in-Ok
returns-in-Ok c =
    write-told _ _ _ _ _ _ c.if-session-lt-SESSION.false c.if-told-lt1.false _ c.session_at-ten.ensures _ _ c.in-Ok.ensures _ _ refl c.put_word.ensures

pub returns-in-Err : goal.returns-in-Err
returns-in-Err c =
    write-told _ _ _ _ _ _ c.if-session-lt-SESSION.false c.if-told-lt1.false _ c.session_at-ten.ensures _ _ c.in-Err.ensures _ _ c.number-in-Err.ensures refl
