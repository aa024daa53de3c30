-- Bytes in hexadecimal. The loop's invariant: the text of the bytes passed is written. Assumes nothing.
use Rattle.wire.proofs.Basics.{take}
use Rattle.text.specs.Text.{hex}
use Rattle.text.specs.Put.{Put}
use Rattle.text.proofs.put_hex.Given as goal

abbrev pub invariant-loop-b : goal.invariant-loop-b
invariant-loop-b l = Put l.initial.out l.at (hex (take l.b-index l.bytes)) l.out l.next
