-- `host_index::qm_index` meets its contract. Assumes nothing.
use Rattle.host_index.proofs.Telling.{index-few, index-told}
use Rattle.host_index.proofs.qm_index.Goals as goal

pub told-requires : goal.told-requires
told-requires c = index-few _ _ _ _ c.index_log.ensures

pub returns : goal.returns
returns c = index-told _ _ _ _ _ c.index_log.ensures c.told.ensures
