-- The numbers passed stand at the start. Assumes nothing.
use Rattle.wire.proofs.Basics.{◌≡◌, length, take}
use Rattle.wire.specs.Overlay.{overlay}
use Rattle.host_flight.proofs.watching.put_each.Given as goal

abbrev pub invariant-loop-i : goal.invariant-loop-i
invariant-loop-i g l = (length l.out ≡ length l.initial.out) × (l.out ≡ overlay l.initial.out 0 (take l.i l.src))
