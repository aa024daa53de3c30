-- `datagram::read_small` meets its contract. Assumes nothing.
use Rattle.wire.proofs.Basics.{◌∙◌, arith}
use Rattle.datagram.specs.Read.{read_small_lem}
use Rattle.datagram.proofs.Names.{named-rest, found-short}
use Rattle.datagram.proofs.read_small.Goals as goal

pub returns-in_default : goal.returns-in_default
unfolding read_small_lem
returns-in_default c = rw (named-rest c.args.d.now 8 _ c.name_length.ensures ∙ c.in_default.is)

pub overflow_add-at : goal.overflow_add-at
overflow_add-at c = omega (arith, found-short _ _ (named-rest c.args.d.now 8 _ c.name_length.ensures ∙ c.in-Some.is))

pub returns : goal.returns
unfolding read_small_lem
returns c = rw (named-rest c.args.d.now 8 _ c.name_length.ensures ∙ c.in-Some.is, c.four.ensures, c.saturating_sub-n.ensures)
