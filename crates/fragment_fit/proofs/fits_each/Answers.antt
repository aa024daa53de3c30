-- `fragment_fit::fits_each` meets its contract. Assumes nothing.
use Rattle.std.proofs.Common.{◌∙◌, refl, arith, rules, tests}
use Rattle.std.proofs.lemmas.Iterator.{YieldsList-from_range}
use Rattle.std.proofs.lemmas.Iterator.Search.{all_from_yields_List}
use Rattle.steps.proofs.Ranges.{all-range}
use Rattle.fragment_fit.specs.Fits.{fits_in_lem}
use Rattle.fragment_fit.proofs.fits_each.Goals as goal

pub returns : goal.returns
returns c =
    let a = c.args in
    let p = fits_in_lem a.held.now a.ledger.now a.k a.offset a.len in
    all_from_yields_List p _ _ _ c.all.ensures.ran (YieldsList-from_range 0 a.n a.n refl (omega arith)) (λ x b q k. search (rules, tests))
    ∙ all-range p a.n
