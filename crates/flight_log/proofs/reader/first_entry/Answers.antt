-- `flight_log::first_entry` meets its contract. Assumes nothing.
use Rattle.wire.proofs.Basics.{◌∙◌, sym}
use Rattle.flight_log.proofs.Reading.{first-empty, first_one, first_two, first-other}
use Rattle.flight_log.proofs.reader.first_entry.Goals as goal

pub returns-then-log-lt1 : goal.returns-then-log-lt1
returns-then-log-lt1 c =
    sym (first-empty c.args.log.now c.if-log-lt1.true)

pub returns-then-log-eq-EDITION_ONE : goal.returns-then-log-eq-EDITION_ONE
returns-then-log-eq-EDITION_ONE c =
    sym (first_one c.args.log.now c.if-log-lt1.false c.if-log-eq-EDITION_ONE.true)

pub returns-then-log-eq-EDITION : goal.returns-then-log-eq-EDITION
returns-then-log-eq-EDITION c =
    c.limit_at.ensures ∙ sym (first_two c.args.log.now c.if-log-lt1.false c.if-log-eq-EDITION_ONE.false c.if-log-eq-EDITION.true)

pub returns : goal.returns
returns c =
    sym (first-other c.args.log.now c.if-log-lt1.false c.if-log-eq-EDITION_ONE.false c.if-log-eq-EDITION.false)
