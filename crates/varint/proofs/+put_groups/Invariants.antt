-- `varint::put_groups` meets its contract: the lowest group, then the rest. The measure is k. Assumes nothing.

use Rattle.varint.proofs.+put_groups.Given as goal

abbrev pub decreases-put_groups : goal.decreases-put_groups
decreases-put_groups l = l.k
