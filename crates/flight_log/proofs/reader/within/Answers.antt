-- `flight_log::reader::within` meets its contract. Assumes nothing.
use Rattle.wire.proofs.Basics.{sym}
use Rattle.flight_log.proofs.Reading.{limited-over, limited-good}
use Rattle.flight_log.proofs.reader.within.Goals as goal

pub returns-then-limit : goal.returns-then-limit
returns-then-limit c =
    let a = c.args in
    sym (limited-over a.log.now a.at a.limit c.if-limit.true)

pub returns : goal.returns
returns c =
    let a = c.args in
    sym (limited-good a.log.now a.at a.limit c.if-limit.false c.requires)
