-- Entry by entry. The loop's invariant: n entries were passed. Assumes nothing.
use Rattle.wire.proofs.Basics.{◌≡◌, ◌-◌, ℕ, List, length}
use Rattle.flight_log.specs.Entries.{Entry}
use Rattle.flight_log.proofs.EntriesPassed.{Passed}
use Rattle.count.proofs.survey.Given as goal

pub record Counted (log : List ℕ) (place n : ℕ) : Type 0 where
  pub entries : List Entry
  pub size : n ≡ length entries
  pub passed : Passed log entries place

abbrev pub invariant-loop-entry : goal.invariant-loop-entry
invariant-loop-entry l =
    Counted l.log l.place l.n

abbrev pub decreases-loop-entry : goal.decreases-loop-entry
decreases-loop-entry l = length l.log - l.place
