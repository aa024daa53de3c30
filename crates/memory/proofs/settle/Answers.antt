-- `memory::settle` meets its contract. Assumes nothing.
use Rattle.wire.proofs.Basics.{◌∙◌}
use Rattle.memory.specs.InsideParts.{settled_in}
use Rattle.memory.proofs.settle.Goals as goal

pub returns : goal.returns
unfolding settled_in
returns c =
    c.put_word-2.ensures ∙ rw (c.put_word.ensures, c.lower_ranks.ensures, c.turns.ensures, c.word-t.ensures)
