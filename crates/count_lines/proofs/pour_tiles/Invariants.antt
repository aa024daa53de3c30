-- The loop's invariant: the lines of the tiles passed are added. Assumes nothing.
use Rattle.output.specs.Output.{Adds}
use Rattle.count_lines.specs.Lines.{tile_lines}
use Rattle.count_lines.proofs.pour_tiles.Given as goal

abbrev pub invariant-loop-i : goal.invariant-loop-i
invariant-loop-i l = Adds l.initial.out (tile_lines l.i l.tile l.pits l.sure) l.out
