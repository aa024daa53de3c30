-- The numbers of a record. The loop's invariant: the i numbers passed are stored. Assumes nothing.
use Rattle.wire.proofs.Basics.{◌≡◌, sets}
use Rattle.ack_bytes.specs.Lines.{numbers_of}
use Rattle.ack_bytes.proofs.take_list.Given as goal

abbrev pub invariant-loop-i : goal.invariant-loop-i
invariant-loop-i l = l.list ≡ sets l.initial.list 0 (numbers_of l.i l.body)
