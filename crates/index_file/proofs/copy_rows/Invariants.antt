-- The loop: the rows passed stand in the words. Assumes nothing.
use Rattle.index_file.specs.File.{file_row}
use Rattle.index_file.proofs.Steps.{Copied}
use Rattle.index_file.proofs.copy_rows.Given as goal

abbrev pub invariant-loop-i : goal.invariant-loop-i
invariant-loop-i l = Copied (file_row l.file) l.initial.index l.i l.index
