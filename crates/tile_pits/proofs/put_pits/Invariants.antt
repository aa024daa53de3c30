-- Pit by pit. The loop's invariant: the first ones are laid. Assumes nothing.
use Rattle.wire.proofs.Basics.{◌≡◌, ◌%◌, length, get_or}
use Rattle.wire.specs.Choice.{pick}
use Rattle.sorted_set.specs.Halving.{is_there}
use Rattle.count_rules.specs.Keys.{span}
use Rattle.pit_marks.proofs.TileLines.{laid}
use Rattle.tile_pits.proofs.put_pits.Given as goal

abbrev pub invariant-loop-i : goal.invariant-loop-i
invariant-loop-i l = record {
  numbers : l.number ≡ laid l.initial.number (length l.pits) (λ j. get_or l.pits j 0 % span) l.i;
  sureness : l.certain ≡ laid l.initial.certain (length l.pits) (λ j. pick (is_there l.sure l.had_sure (get_or l.pits j 0)) 1 0) l.i;
}
