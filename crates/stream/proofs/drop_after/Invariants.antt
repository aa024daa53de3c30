-- Bytes dropped after a place. The loop's invariant: all that was held or came is dropped, and more is to be. Assumes nothing.
use Rattle.stream.proofs.Passing.{Passing}
use Rattle.stream.proofs.drop_after.Given as goal

abbrev pub invariant-loop-left : goal.invariant-loop-left
invariant-loop-left l = Passing l.initial.buf l.place l.end l.rest l.buf l.left

abbrev pub decreases-loop-left : goal.decreases-loop-left
decreases-loop-left l = l.left
