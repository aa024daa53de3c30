-- Bytes of any number in hexadecimal. The loop's invariant: the text of the i bytes passed went out. Assumes nothing.
use Rattle.wire.proofs.Basics.{◌≡◌, ◌≤◌, ◌-◌, length, take}
use Rattle.text.specs.Text.{hex}
use Rattle.output.specs.Output.{Pours}
use Rattle.output.proofs.pour_hex.Given as goal

abbrev pub invariant-loop-i : goal.invariant-loop-i
invariant-loop-i l = (l.i ≤ length l.bytes) × (length l.out ≡ length l.initial.out) × Pours l.initial.out l.at (hex (take l.i l.bytes)) l.out l.next

abbrev pub decreases-loop-i : goal.decreases-loop-i
decreases-loop-i l = length l.bytes - l.i
