-- `cutter::Message::count` meets its contract. Assumes nothing.
use Rattle.wire.proofs.Basics.{◌∙◌, sym}
use Rattle.cutter.specs.Cut.{count_of}
use Rattle.cutter.proofs.Message.count.Goals as goal

pub returns-then-is_small : goal.returns-then-is_small
unfolding count_of
returns-then-is_small c = rw (sym c.is_small.ensures ∙ c.if-is_small.true)

pub returns : goal.returns
unfolding count_of
returns c = rw (sym c.is_small.ensures ∙ c.if-is_small.false)
