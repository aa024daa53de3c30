-- `ranks::word_of` meets its contract. Assumes nothing.
use Rattle.wire.proofs.Basics.{sym, List·getD-eq-default, arith}
use Rattle.ranks.proofs.word_of.Goals as goal

pub returns : goal.returns
returns c =
    let args = c.args in
    sym (List·getD-eq-default args.w.now 0 (omega arith))
