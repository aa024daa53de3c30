-- `host_index_file::qm_index_file_head` meets its contract. Assumes nothing.
use Rattle.host_index_file.proofs.Telling.{head-short, head-told}
use Rattle.host_index_file.proofs.qm_index_file_head.Goals as goal

pub returns-then-head-lt-PLACE : goal.returns-then-head-lt-PLACE
returns-then-head-lt-PLACE c =
    let a = c.args in
    rw c.number.ensures (head-short a.file.now a.head.now c.if-head-lt-PLACE.true)

pub returns : goal.returns
returns c =
    let a = c.args in
    let t = c.tell_head.ensures in
    head-told a.file.now a.head.now _ _ _ c.if-head-lt-PLACE.false c.read_head-read.ensures t.0 t.1
