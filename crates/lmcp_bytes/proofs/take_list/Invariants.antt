-- The numbers of a body. The loop's invariant: the i numbers passed are stored. Assumes nothing.
use Rattle.wire.proofs.Basics.{◌≡◌, sets}
use Rattle.lmcp_bytes.specs.Lines.{numbers_of}
use Rattle.lmcp_bytes.proofs.take_list.Given as goal

abbrev pub invariant-loop-i : goal.invariant-loop-i
invariant-loop-i l = l.list ≡ sets l.initial.list 0 (numbers_of l.i l.body)
