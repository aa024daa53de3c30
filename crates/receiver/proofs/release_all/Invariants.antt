-- `receiver::release_all` meets its contract. The loop's invariant: the sender's slots among the i passed are freed. Assumes nothing.
use Rattle.receiver.specs.Inside.{ReleasesAll}
use Rattle.receiver.proofs.release_all.Given as goal

abbrev pub invariant-loop-i : goal.invariant-loop-i
invariant-loop-i l = ReleasesAll l.initial.state l.initial.names l.sender l.i l.state l.names
