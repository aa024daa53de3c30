-- The loop: the rows passed stand behind the head. Assumes nothing.
use Rattle.log_index.specs.Words.{row_at}
use Rattle.index_writer.proofs.Laying.{Laid}
use Rattle.index_writer.proofs.put_rows.Given as goal

abbrev pub invariant-loop-i : goal.invariant-loop-i
invariant-loop-i l = Laid (row_at l.index) l.initial.file l.i l.file
