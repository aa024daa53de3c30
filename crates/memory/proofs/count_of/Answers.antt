-- `memory::count_of` meets its contract. Assumes nothing.
use Rattle.wire.proofs.Basics.{◌∙◌, sym}
use Rattle.memory.proofs.count_of.Goals as goal

pub returns-then-is_of : goal.returns-then-is_of
returns-then-is_of c = rw (c.word.ensures, sym c.is_of.ensures ∙ c.if-is_of.true)

pub returns : goal.returns
returns c = rw (sym c.is_of.ensures ∙ c.if-is_of.false)
