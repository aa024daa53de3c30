-- Lengths, each after a space. The loop's invariant: what went out and the lengths of the blocks that are left are those of all. Assumes nothing.
use Rattle.wire.proofs.Basics.{◌≡◌, ◌-◌, length, drop}
use Rattle.moss.specs.Blocks.{messages_in}
use Rattle.moss.specs.Packet.{fill_fault}
use Rattle.gauge.proofs.Texts.{Passed}
use Rattle.gauge.proofs.pour_lengths.Given as goal

abbrev pub invariant-loop-block : goal.invariant-loop-block
invariant-loop-block l = (fill_fault (messages_in (drop l.block l.p)) ≡ 0) × Passed l.initial.out l.p l.from l.block l.out

abbrev pub decreases-loop-block : goal.decreases-loop-block
decreases-loop-block l = length l.p - l.block
