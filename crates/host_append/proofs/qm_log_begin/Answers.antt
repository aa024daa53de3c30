-- `host_append::qm_log_begin` meets its contract. Assumes nothing.
use Rattle.host_append.proofs.Telling.{begin_spans, begin-told}
use Rattle.host_append.proofs.qm_log_begin.Goals as goal

pub told-requires : goal.told-requires
told-requires c =
    begin_spans _ _ _ _ c.begin.ensures

pub returns : goal.returns
returns c =
    begin-told _ _ _ _ _ c.begin.ensures c.told.ensures
