-- The blocks laid so far lie within the output, so that their number does not run over. Assumes nothing.
use Rattle.wire.proofs.Basics.{◌≤◌, length}
use Rattle.writer_cases.proofs.packets.lay_blocks.Given as goal

abbrev pub invariant-loop : goal.invariant-loop
invariant-loop l = l.at ≤ length l.blocks
