-- Row by row. The loop's invariant: the i rows passed have their lines. Where the output is closed, the rest takes no more. Assumes nothing.
use Rattle.output.specs.Output.{Adds}
use Rattle.index_list.specs.InsideLines.{lines_below}
use Rattle.index_list.proofs.listed.Given as goal

abbrev pub invariant-loop-i : goal.invariant-loop-i
invariant-loop-i l = Adds l.initial.out (lines_below l.i l.index) l.out
