-- The datagram is received, the answer told, and what is delivered taken. Assumes nothing.
use Rattle.flight_log.specs.Said.{entry_said}
use Rattle.receiver.specs.Lent.{lent}
use Rattle.pit_marks.specs.Told.{sets_in}
use Rattle.pit_payloads.specs.Looks.{book}
use Rattle.stretch.specs.Stretch.{desk}
use Rattle.stretch.proofs.Enters.{entry-takes}
use Rattle.stretch.proofs.one_entry.Goals as goal

pub returns-clause-takes : goal.returns-clause-takes
returns-clause-takes c =
    let a = c.args in
    entry-takes a.limits (entry_said a.log.now a.entry) (desk (lent a.state.now a.names.now a.store.now a.ledger.now) (book a.numbers.now (sets_in a.sets.now))) a.totals.now a.sets.now.sizes
    _ c.part-d.ensures c.receive_within-outcome.result _ c.receive_within-outcome.ensures c.told.new.totals c.told.ensures
    _ c.payload-payload.ensures _ _ c.one_payload.ensures.takes
