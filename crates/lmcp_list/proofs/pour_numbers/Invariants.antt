-- Numbers, each after a space. The loop's invariant: the numbers passed went out. Assumes nothing.
use Rattle.wire.proofs.Basics.{take}
use Rattle.output.specs.Output.{Adds}
use Rattle.lmcp_list.specs.Lines.{spaced}
use Rattle.lmcp_list.proofs.pour_numbers.Given as goal

abbrev pub invariant-loop-z : goal.invariant-loop-z
invariant-loop-z l = Adds l.initial.out (spaced (take l.z-index l.list)) l.out
