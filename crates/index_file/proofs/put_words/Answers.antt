-- Three words at once. Assumes nothing.
use Rattle.log_index.specs.Words.{row_said}
use Rattle.index_file.proofs.Steps.{words-laid}
use Rattle.index_file.proofs.put_words.Goals as goal

pub returns : goal.returns
returns c =
    let a = c.args in
    words-laid (row_said a.row) _ _ _ c.put_words.ensures
