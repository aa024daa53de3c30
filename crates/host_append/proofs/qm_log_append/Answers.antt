-- `host_append::qm_log_append` meets its contract. Assumes nothing.
use Rattle.host_append.proofs.Telling.{append_spans, append-told}
use Rattle.host_append.proofs.qm_log_append.Goals as goal

pub told-requires : goal.told-requires
told-requires c =
    append_spans _ _ _ _ _ c.append.ensures

pub returns : goal.returns
returns c =
    append-told _ _ _ _ _ _ c.append.ensures c.told.ensures
