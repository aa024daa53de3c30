-- A row goes in where there are words for it. Assumes nothing.
use Rattle.wire.proofs.Basics.{◌∙◌, ap, refl, ℕ, le-ltb, lt-ltb}
use Rattle.log_index.specs.Words.{row_said, inserted, entered}
use Rattle.log_index.proofs.enter.Goals as goal

pub returns-then-n-index : goal.returns-then-n-index
unfolding entered
returns-then-n-index c =
    let a = c.args in
    rw (lt-ltb _ _ c.if-n-index.true)
    (c.insert.ensures ∙ ap (λ (k : ℕ). inserted a.index.now k a.n 0 (row_said a.row)) c.rank-at.ensures.0)

pub returns-else-n-index : goal.returns-else-n-index
unfolding entered
returns-else-n-index c =
    rw (le-ltb _ _ c.if-n-index.false) refl
