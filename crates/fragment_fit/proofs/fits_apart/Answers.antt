-- `fragment_fit::fits_apart` meets its contract. Assumes nothing.
use Rattle.wire.proofs.Basics.{◌∙◌, sym, ap, ℕ, arith}
use Rattle.steps.specs.Search.{all_below}
use Rattle.fragment_fit.specs.Inside.{apart_at}
use Rattle.fragment_fit.proofs.Aparts.{near_missed, near_apart}
use Rattle.fragment_fit.proofs.fits_apart.Goals as goal

pub returns-then-not-near_fit : goal.returns-then-not-near_fit
returns-then-not-near_fit c =
    let a = c.args in
    sym (near_missed a.held.now a.ledger.now a.n a.k a.offset a.len (omega arith) (sym c.near_fit.ensures ∙ c.if-not-near_fit.true))

pub returns-then-n-le-WORD_BITS : goal.returns-then-n-le-WORD_BITS
returns-then-n-le-WORD_BITS c = let a = c.args in c.few_apart.ensures
    ∙ ap (λ (x : ℕ). all_below a.n (apart_at a.held.now a.ledger.now x a.offset a.len)) c.as_size-number.ensures.0
    ∙ near_apart a.held.now a.ledger.now a.n a.k a.offset a.len (sym c.near_fit.ensures ∙ c.if-not-near_fit.false)

pub returns : goal.returns
returns c = let a = c.args in c.all_apart.ensures
    ∙ ap (λ (x : ℕ). all_below a.n (apart_at a.held.now a.ledger.now x a.offset a.len)) c.as_size-number.ensures.0
    ∙ near_apart a.held.now a.ledger.now a.n a.k a.offset a.len (sym c.near_fit.ensures ∙ c.if-not-near_fit.false)
