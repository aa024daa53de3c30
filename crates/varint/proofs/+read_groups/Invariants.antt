-- `varint::read_groups` meets its contract: a byte, and the groups after it. The measure is k. Assumes nothing.

use Rattle.varint.proofs.+read_groups.Given as goal

abbrev pub decreases-read_groups : goal.decreases-read_groups
decreases-read_groups l = l.k
