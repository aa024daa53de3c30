-- `cutter::Message::put_datagram` meets its contract. Assumes nothing.
use Rattle.wire.proofs.Basics.{◌∙◌, sym}
use Rattle.cutter.specs.Cut.{datagram_of}
use Rattle.cutter.proofs.Message.put_datagram.Goals as goal

pub returns-then-is_small : goal.returns-then-is_small
unfolding datagram_of
returns-then-is_small c = rw (sym c.is_small.ensures ∙ c.if-is_small.true) c.put_small.ensures

pub returns : goal.returns
unfolding datagram_of
returns c = rw (sym c.is_small.ensures ∙ c.if-is_small.false, ← c.requires.1) c.put_fragment.ensures
