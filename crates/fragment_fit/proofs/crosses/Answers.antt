-- `fragment_fit::crosses` meets its contract. Assumes nothing.

use Rattle.fragment_fit.proofs.crosses.Goals as goal

pub returns-then-below : goal.returns-then-below
returns-then-below c = rw c.if-below.true c.reach_past.ensures

pub returns : goal.returns
returns c = rw c.if-below.false c.reach_past-2.ensures
