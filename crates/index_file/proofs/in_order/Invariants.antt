-- The loop: the rows passed are in order. Assumes nothing.
use Rattle.wire.proofs.Basics.{◌≡◌, true}
use Rattle.index_file.specs.File.{file_row, in_order_lem}
use Rattle.index_file.proofs.in_order.Given as goal

abbrev pub invariant-loop-i : goal.invariant-loop-i
invariant-loop-i l = in_order_lem (file_row l.file) l.i ≡ true
