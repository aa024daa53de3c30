-- Entry by entry. The loop's invariant: the entries passed have their lines. Assumes nothing.
use Rattle.wire.proofs.Basics.{◌-◌, length}
use Rattle.log_list.proofs.Listing.{Going}
use Rattle.log_list.proofs.listed.Given as goal

abbrev pub invariant-loop-step : goal.invariant-loop-step
invariant-loop-step l = Going l.log l.initial.out l.out l.place l.n

abbrev pub decreases-loop-step : goal.decreases-loop-step
decreases-loop-step l = length l.log - l.place
