-- The loop: the run so far and what is left are the blocks from its first number. Assumes nothing.
use Rattle.wire.proofs.Basics.{◌≡◌, ◌≤◌, ◌<◌, length, drop, get_or}
use Rattle.ack_writer.specs.Write.{rising, rising_from, blocks_from, blocks_of}
use Rattle.ack_writer.proofs.run_from.Given as goal

abbrev pub invariant-loop-i : goal.invariant-loop-i
invariant-loop-i l =
    (l.from < l.i)
    × ((l.i ≤ length l.list)
    × ((rising (drop l.from l.list) ≡ rising_from l.last (drop l.i l.list)) × (blocks_of (drop l.from l.list) ≡ blocks_from (get_or l.list l.from 0) l.last (drop l.i l.list))))
