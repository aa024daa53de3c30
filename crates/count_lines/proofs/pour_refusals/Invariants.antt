-- The loop's invariant: the lines of the numbers passed are added. Assumes nothing.
use Rattle.output.specs.Output.{Adds}
use Rattle.count_lines.specs.Lines.{refused_lines}
use Rattle.count_lines.proofs.pour_refusals.Given as goal

abbrev pub invariant-loop-number : goal.invariant-loop-number
invariant-loop-number l = Adds l.initial.out (refused_lines l.number l.refused) l.out
