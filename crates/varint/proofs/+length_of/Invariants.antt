-- `varint::length_of` meets its contract: one byte, or one more than the rest takes. The measure is k. Assumes nothing.

use Rattle.varint.proofs.+length_of.Given as goal

abbrev pub decreases-length_of : goal.decreases-length_of
decreases-length_of l = l.k
