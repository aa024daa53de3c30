-- `memory_places::free_all` meets its contract. The loop's invariant: the i places passed are freed where they are the sender's. Assumes nothing.
use Rattle.wire.proofs.Basics.{◌≡◌}
use Rattle.memory_places.specs.Inside.{freed_in}
use Rattle.memory_places.proofs.free_all.Given as goal

abbrev pub invariant-loop-i : goal.invariant-loop-i
invariant-loop-i l = l.memory ≡ freed_in l.initial.memory l.sender l.i
