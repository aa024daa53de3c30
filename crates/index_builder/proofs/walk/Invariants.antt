-- The loop: the rows in the index, those that wait and those to come are all. Assumes nothing.
use Rattle.wire.proofs.Basics.{◌≤◌, ◌+◌, ◌-◌, length}
use Rattle.log_index.specs.Index.{rows_from}
use Rattle.index_builder.proofs.EntryTurns.{Going}
use Rattle.index_builder.proofs.walk.Given as goal

abbrev pub invariant-loop-entry : goal.invariant-loop-entry
invariant-loop-entry l =
    (l.held.rows + l.held.waiting + l.from ≤ l.n + l.at)
    × ((l.at ≤ length l.log + l.from)
    × Going l.initial.index l.n (rows_from l.limits l.log l.from) (length l.initial.batch) l.index l.held.rows l.batch l.held.waiting (rows_from l.limits l.log l.at))

abbrev pub decreases-loop-entry : goal.decreases-loop-entry
decreases-loop-entry l = length l.log - l.at
