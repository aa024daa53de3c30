-- `fragment_fit::run_apart` meets its contract. The loop's invariant: crossed of the b fragments passed are held and cross. Assumes nothing.
use Rattle.wire.proofs.Basics.{◌≡◌, ◌≤◌, eqb}
use Rattle.steps.specs.Search.{all_below}
use Rattle.fragment_fit.specs.Inside.{apart_in}
use Rattle.fragment_fit.proofs.run_apart.Given as goal

abbrev pub invariant-loop-b : goal.invariant-loop-b
invariant-loop-b l = (l.crossed ≤ l.b) × (eqb l.crossed 0 ≡ all_below l.b (apart_in l.w l.ledger l.at l.below l.offset l.len))
