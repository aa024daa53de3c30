-- `fragment_fit::fits_all` meets its contract. Assumes nothing.

use Rattle.fragment_fit.proofs.fits_all.Goals as goal

pub returns-then-count-ledger : goal.returns-then-count-ledger
returns-then-count-ledger c = rw c.as_size-count.ensures.0 at c.fits_apart.ensures

pub returns : goal.returns
returns c = rw c.as_size-count.ensures.0 at c.fits_each.ensures
