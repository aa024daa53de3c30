-- `host_index_file::qm_index_file_find` meets its contract. Assumes nothing.
use Rattle.host_index_file.proofs.Telling.{look-short, look-told}
use Rattle.host_index_file.proofs.qm_index_file_find.Goals as goal

pub returns-then-place-lt-PLACE : goal.returns-then-place-lt-PLACE
returns-then-place-lt-PLACE c =
    let a = c.args in
    rw c.number.ensures (look-short a.log.now a.file.now a.sender a.sequence a.place.now c.if-place-lt-PLACE.true)

pub returns : goal.returns
returns c =
    let a = c.args in
    let t = c.tell_looked.ensures in
    look-told a.log.now a.file.now a.sender a.sequence a.place.now _ _ _ _ c.if-place-lt-PLACE.false c.as_word.ensures c.look_up-looked.ensures t.0 t.1
