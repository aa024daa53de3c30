-- `ranks::put_word_of` meets its contract. Assumes nothing.
use Rattle.wire.proofs.Basics.{sym, set_out, arith}
use Rattle.ranks.proofs.put_word_of.Goals as goal

pub returns-else-j-saturating_sub : goal.returns-else-j-saturating_sub
returns-else-j-saturating_sub c =
    let args = c.args in
    sym (set_out args.w.now _ args.x (omega arith))
