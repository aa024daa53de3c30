-- `memory::add` meets its contract. Assumes nothing.
use Rattle.wire.proofs.Basics.{◌∙◌, le-ltb, lt-ltb}
use Rattle.memory.specs.InsideParts.{added_in}
use Rattle.memory.proofs.add.Goals as goal

pub returns-then-n : goal.returns-then-n
unfolding added_in
returns-then-n c =
    c.put_word-then-n.ensures ∙ rw (c.put_word.ensures, lt-ltb _ _ c.if-n.true)

pub returns : goal.returns
unfolding added_in
returns c =
    c.put_word-2.ensures ∙ rw (c.shift.ensures, le-ltb _ _ c.if-n.false)
