-- A run of calls, one call longer.
use Rattle.wire.proofs.Basics.{◌≡◌, refl, List, [], ◌∷◌, ◌++◌}
use Rattle.steps.specs.Runs.{World, world_of, Arrival, call, run, left_by}

pub left-more : (w : World) (xs : List Arrival) (x : Arrival) → left_by w (run w (xs ++ x ∷ [])) ≡ world_of (call (left_by w (run w xs)) x)
unfolding run
left-more w [] x = refl
left-more w (y ∷ ys) x = left-more (world_of (call w y)) ys x
