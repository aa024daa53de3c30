-- `host_receiver::place_numbers` meets its contract. Assumes nothing.
use Rattle.wire.proofs.Basics.{sym, ap}
use Rattle.host_receiver.specs.Outcomes.{place_numbers_lem}
use Rattle.steps.specs.declared.PayloadAt.{PayloadAt}
use Rattle.host_receiver.proofs.place_numbers.Goals as goal

pub returns-in-InDatagram : goal.returns-in-InDatagram
returns-in-InDatagram c =
    sym (ap (λ (p : PayloadAt). place_numbers_lem p c.args.len) c.in-InDatagram.is)

pub returns-in-InStore : goal.returns-in-InStore
returns-in-InStore c =
    sym (ap (λ (p : PayloadAt). place_numbers_lem p c.args.len) c.in-InStore.is)
