-- Element by element. The loop's invariant: those that are left, entered into what there is, are all of them entered. Assumes nothing.
use Rattle.wire.proofs.Basics.{◌≡◌, ◌≤◌, length}
use Rattle.pit_marks.specs.Told.{SameWords}
use Rattle.pit_marks.specs.Enters.{enter_marks}
use Rattle.pit_marks.proofs.ElementTurn.{marks_of}
use Rattle.pit_marks.proofs.enter_elements.Given as goal

abbrev pub invariant-loop-rest : goal.invariant-loop-rest
invariant-loop-rest l =
    SameWords l.initial.sets l.sets
    × (l.sets.tiles.now ≡ l.initial.sets.tiles.now)
    × (length l.rest ≤ length l.elements)
    × (enter_marks l.tile (marks_of l.two l.rest) l.sets.pits.now l.sets.sure.now l.sets.sizes ≡ enter_marks l.tile (marks_of l.two l.elements) l.initial.sets.pits.now l.initial.sets.sure.now l.initial.sets.sizes)

abbrev pub decreases-loop-rest : goal.decreases-loop-rest
decreases-loop-rest l = length l.rest
