-- By whether there is room for the number that tells, and for the pits. Assumes nothing.
use Rattle.wire.proofs.Basics.{ap}
use Rattle.tile_pits.specs.Pits.{map_of, told}
use Rattle.host_pits.proofs.Telling.{not_written, pits-many, pits-refused}
use Rattle.host_pits.proofs.qm_pits.Goals as goal

pub returns-then-told-lt1 : goal.returns-then-told-lt1
returns-then-told-lt1 c =
    let a = c.args in
    not_written (map_of a.pits.now a.had_pits a.sure.now a.had_sure) a.tile a.number.now a.certain.now a.told.now c.if-told-lt1.true

pub returns-in-Ok : goal.returns-in-Ok
returns-in-Ok c =
    let a = c.args in
    pits-many (map_of a.pits.now a.had_pits a.sure.now a.had_sure) a.tile a.number.now a.certain.now a.told.now
    c.if-told-lt1.false (told c.pits_from-given.result) _ _ c.pits_from-given.ensures _ (ap told c.in-Ok.is) _ c.put_word.ensures

pub returns-in-Err : goal.returns-in-Err
returns-in-Err c =
    let a = c.args in
    rw c.number.ensures (pits-refused (map_of a.pits.now a.had_pits a.sure.now a.had_sure) a.tile a.number.now a.certain.now a.told.now
    c.if-told-lt1.false (told c.pits_from-given.result) _ _ c.pits_from-given.ensures _ (ap told c.in-Err.is))
