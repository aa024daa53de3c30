-- The loop: what is laid and what is left are the whole. Assumes nothing.
use Rattle.wire.proofs.Basics.{◌-◌, length}
use Rattle.ack_writer.proofs.ListTurns.{Sofar}
use Rattle.ack_writer.proofs.lay.Given as goal

abbrev pub invariant-loop-i : goal.invariant-loop-i
invariant-loop-i l = Sofar l.list l.initial.blocks l.blocks l.at l.i

abbrev pub decreases-loop-i : goal.decreases-loop-i
decreases-loop-i l = length l.list - l.i
