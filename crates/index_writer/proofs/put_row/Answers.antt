-- Three numbers one after another. Assumes nothing.
use Rattle.log_index.specs.Words.{row_said}
use Rattle.index_writer.proofs.Laying.{row_laid}
use Rattle.index_writer.proofs.put_row.Goals as goal

pub returns : goal.returns
returns c =
    let a = c.args in
    row_laid _ _ _ _ _ (row_said a.row) c.put_number.ensures c.put_number-2.ensures c.put_number-3.ensures
