-- The worked senders are answered as worked. Assumes nothing.
use Rattle.wire.proofs.Basics.{◌≡◌, refl, map}
use Rattle.watch.specs.Senders.{empty, set_last, moved}
use Rattle.watch.specs.Watching.{asked_at, asked, after}
use Rattle.watch.specs.Worked.{noted}
use Rattle.watch_laws.specs.Worked.{Mixed, mixed}

pub worked-mixed : map (λ (m : Mixed). noted empty m.come) mixed ≡ map (λ (m : Mixed). m.gives) mixed
unfolding asked_at asked after set_last moved
worked-mixed = refl
