-- `host_index::qm_index_on` meets its contract. Assumes nothing.
use Rattle.host_index.proofs.Telling.{on-few, on-told}
use Rattle.wire.proofs.Basics.{rules}
use Rattle.host_index.proofs.qm_index_on.Goals as goal

pub told-requires : goal.told-requires
told-requires c =
    let a = c.args in
    on-few a.log.now a.from a.index.now a.rows a.most (search rules) _ _ c.index_on.ensures

pub returns : goal.returns
returns c =
    let a = c.args in
    on-told a.log.now a.from a.index.now a.rows a.most _ _ _ c.index_on.ensures c.told.ensures
