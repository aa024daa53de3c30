-- A number in decimal: the text of n / 10, then the last digit. The measure is n. Assumes nothing.
use Rattle.text.proofs.+put_decimal.Given as goal

abbrev pub decreases-put_decimal : goal.decreases-put_decimal
decreases-put_decimal l = l.n
