-- Record by record. The loop's invariant: the records taken have their lines. Assumes nothing.
use Rattle.record_lines.proofs.RecordLoop.{Telling}
use Rattle.record_lines.proofs.records.Given as goal

abbrev pub invariant-loop-n : goal.invariant-loop-n
invariant-loop-n g l =
    Telling g.T.Teller.says l.kind l.initial.buf l.initial.rest (g.T.Teller.known l.initial.teller) l.initial.out l.buf l.rest (g.T.Teller.known l.teller) l.out l.n
