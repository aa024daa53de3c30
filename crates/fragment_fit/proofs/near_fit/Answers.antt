-- `fragment_fit::near_fit` meets its contract. Assumes nothing.
use Rattle.wire.proofs.Basics.{◌∙◌, sym, ◌≡◌, ◌-◌, ◌||◌, true, leb}
use Rattle.fragment_fit.specs.Fits.{fits_in_lem}
use Rattle.fragment_fit.proofs.Aparts.{first_fits, first-free, near_breaks, near-other, near-only}
use Rattle.fragment_fit.proofs.near_fit.Goals as goal
use Rattle.fragment_fit.proofs.near_fit.Goals.{then-number-gt0+else-not-fits_with, else-number-gt0}

pub returns-then-not-fits_with : goal.returns-then-not-fits_with
returns-then-not-fits_with c =
    let a = c.args in
    let k = c.as_size-number.ensures.0 in
    sym (near_breaks a.held.now a.ledger.now a.n a.k a.offset a.len (rw k at c.if-number-gt0.true) (rw k at (sym c.fits_with.ensures ∙ c.if-not-fits_with.true)))

pub returns-then-number-n : goal.returns-then-number-n
returns-then-number-n c =
    let a = c.args in
    let k = c.as_size-number.ensures.0 in
    let first : (leb a.k 0 || fits_in_lem a.held.now a.ledger.now a.k a.offset a.len (a.k - 1)) ≡ true = elim c.if-number-gt0.branch [
      | then-number-gt0+else-not-fits_with w ↦ first_fits a.held.now a.ledger.now a.n a.k a.offset a.len (rw k at (sym w.fits_with.ensures ∙ w.if-not-fits_with.false))
      | else-number-gt0 w ↦ first-free a.held.now a.ledger.now a.n a.k a.offset a.len (rw k at w.if-number-gt0.false)
    ] in
    rw k at c.fits_with-then-number-n.ensures ∙ sym (near-other a.held.now a.ledger.now a.n a.k a.offset a.len first (rw k at c.if-number-n.true))

pub returns : goal.returns
returns c =
    let a = c.args in
    let k = c.as_size-number.ensures.0 in
    let first : (leb a.k 0 || fits_in_lem a.held.now a.ledger.now a.k a.offset a.len (a.k - 1)) ≡ true = elim c.if-number-gt0.branch [
      | then-number-gt0+else-not-fits_with w ↦ first_fits a.held.now a.ledger.now a.n a.k a.offset a.len (rw k at (sym w.fits_with.ensures ∙ w.if-not-fits_with.false))
      | else-number-gt0 w ↦ first-free a.held.now a.ledger.now a.n a.k a.offset a.len (rw k at w.if-number-gt0.false)
    ] in
    sym (near-only a.held.now a.ledger.now a.n a.k a.offset a.len first (rw k at c.if-number-n.false))
