-- `memory::in_order` meets its contract. Assumes nothing.
use Rattle.wire.proofs.Basics.{sym}
use Rattle.memory_places.proofs.Places.{all-few}
use Rattle.memory_places.proofs.in_order.Goals as goal

pub returns-then-all_counts : goal.returns-then-all_counts
returns-then-all_counts c = sym (all-few _ _ c.all_counts.ensures c.if-all_counts.true)
