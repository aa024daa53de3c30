-- `words::put_word` meets its contract. Assumes nothing.
use Rattle.wire.proofs.Basics.{sym, set_out, arith}
use Rattle.words.proofs.put_word.Goals as goal

pub returns-else-i-w : goal.returns-else-i-w
returns-else-i-w g c = sym (set_out c.args.w.now _ _ (omega arith))
