-- `fragment_fit::all_apart` meets its contract. The loop's invariant: none of the j fragments passed is held and crosses. Assumes nothing.
use Rattle.wire.proofs.Basics.{◌≡◌, ◌≤◌, ◌-◌, true}
use Rattle.steps.specs.Search.{all_below}
use Rattle.fragment_fit.specs.Inside.{apart_at}
use Rattle.fragment_fit.proofs.all_apart.Given as goal

abbrev pub invariant-loop-j : goal.invariant-loop-j
invariant-loop-j l = (l.j ≤ l.n) × (all_below l.j (apart_at l.held l.ledger l.k l.offset l.len) ≡ true)

abbrev pub decreases-loop-j : goal.decreases-loop-j
decreases-loop-j l = l.n - l.j
