-- `host_receiver::later_numbers` meets its contract. Assumes nothing.
use Rattle.wire.proofs.Basics.{sym, ap}
use Rattle.steps.specs.declared.Emptied.{Emptied}
use Rattle.host_receiver.specs.Outcomes.{later_numbers_lem}
use Rattle.host_receiver.proofs.later_numbers.Goals as goal

pub returns-in-Nobody : goal.returns-in-Nobody
returns-in-Nobody c =
    sym (ap (λ (e : Emptied). later_numbers_lem e c.args.sequence) c.in-Nobody.is)

pub returns-in-Was : goal.returns-in-Was
returns-in-Was c =
    sym (ap (λ (e : Emptied). later_numbers_lem e c.args.sequence) c.in-Was.is)
