-- Three numbers one after another. Assumes nothing.
use Rattle.index_writer.proofs.Laying.{head-laid}
use Rattle.index_writer.proofs.put_head.Goals as goal

pub returns : goal.returns
returns c =
    head-laid _ _ _ _ _ _ c.put_number.ensures c.put_number-2.ensures c.put_number-3.ensures
