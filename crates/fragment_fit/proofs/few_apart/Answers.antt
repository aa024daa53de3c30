-- `fragment_fit::few_apart` meets its contract. Assumes nothing.
use Rattle.wire.proofs.Basics.{◌∙◌, sym, ap, ℕ, ◌-◌, ◌*◌, ◌^◌, ◌/◌, false}
use Rattle.fragment_fit.proofs.Aparts.{few-below, few-all, zero-apart}
use Rattle.fragment_fit.proofs.few_apart.Goals as goal

pub returns-then-not-run_apart : goal.returns-then-not-run_apart
returns-then-not-run_apart c =
    let a = c.args in
    let e = rw c.word-w.ensures at (sym c.run_apart.ensures ∙ c.if-not-run_apart.true) in
    sym (few-below a.held.now a.ledger.now a.n a.k a.offset a.len c.requires.0 c.requires.1 e)

pub returns-then-above-eq0 : goal.returns-then-above-eq0
returns-then-above-eq0 c =
    let a = c.args in
    sym (zero-apart _ (a.n - a.k) a.ledger.now (2 * a.k) false a.offset a.len c.if-above-eq0.true)
    ∙ few-all a.held.now a.ledger.now a.n a.k a.offset a.len c.requires.0 c.requires.1 _ (ap (λ (x : ℕ). x / 2 ^ a.k) c.word-w.ensures)
    (rw c.word-w.ensures at (sym c.run_apart.ensures ∙ c.if-not-run_apart.false))

pub returns : goal.returns
returns c =
    let a = c.args in
    c.run_apart-2.ensures
    ∙ few-all a.held.now a.ledger.now a.n a.k a.offset a.len c.requires.0 c.requires.1 _ (ap (λ (x : ℕ). x / 2 ^ a.k) c.word-w.ensures)
    (rw c.word-w.ensures at (sym c.run_apart.ensures ∙ c.if-not-run_apart.false))
