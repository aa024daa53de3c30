-- Tile by tile. The loop's invariant: the lines of the first i tiles are laid. Assumes nothing.
use Rattle.wire.proofs.Basics.{◌≡◌, get_or}
use Rattle.pit_marks.specs.Lines.{pits_in}
use Rattle.pit_marks.proofs.TileLines.{laid}
use Rattle.pit_marks.proofs.put_lines.Given as goal

abbrev pub invariant-loop-i : goal.invariant-loop-i
invariant-loop-i l = record {
  tiles : l.tile ≡ laid l.initial.tile l.had.tiles (λ j. get_or l.tiles j 0) l.i;
  pits-of : l.pit ≡ laid l.initial.pit l.had.tiles (λ j. pits_in l.pits l.had.pits (get_or l.tiles j 0)) l.i;
  sure-of : l.certain ≡ laid l.initial.certain l.had.tiles (λ j. pits_in l.sure l.had.sure (get_or l.tiles j 0)) l.i;
}
