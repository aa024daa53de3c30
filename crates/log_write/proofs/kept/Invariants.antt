-- Record by record. The loop's invariant: the records taken went out as entries. Assumes nothing.
use Rattle.wire.proofs.Basics.{◌≡◌, length}
use Rattle.stream.specs.declared.Kind.TheVariants.{Entry}
use Rattle.record_lines.proofs.RecordLoop.{Going}
use Rattle.log_write.specs.Inside.{says}
use Rattle.log_write.proofs.kept.Given as goal

abbrev pub invariant-loop-n : goal.invariant-loop-n
invariant-loop-n l = (length l.out ≡ length l.initial.out) × (length l.space ≡ length l.initial.space) × Going says Entry l.initial.buf l.initial.rest tt l.initial.out l.first l.buf l.rest tt l.out l.at l.n
