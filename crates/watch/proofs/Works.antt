-- Every worked case gives what the paper says, computed in one statement. Assumes nothing.
use Rattle.wire.proofs.Basics.{◌≡◌, refl, map}
use Rattle.watch.specs.Senders.{set_last, moved}
use Rattle.watch.specs.Watching.{asked_at, asked, after}
use Rattle.watch.specs.Worked.{noted, Case, cases}

pub worked : map (λ (c : Case). noted c.watch c.come) cases ≡ map (λ (c : Case). c.gives) cases
unfolding set_last moved asked_at asked after
worked = refl
