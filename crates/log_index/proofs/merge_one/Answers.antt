-- The row goes to its place. Assumes nothing.
use Rattle.wire.proofs.Basics.{◌∙◌, ◌≡◌, ap, length}
use Rattle.log_index.specs.Words.{row_at, rank_in, inserted}
use Rattle.log_index.proofs.Moves.{inserted-length}
use Rattle.log_index.proofs.merge_one.Goals as goal

pub returns : goal.returns
returns c =
    let a = c.args in
    let e = c.row_at-row.ensures in
    let r : c.rank-at.result ≡ rank_in a.index.now a.n (row_at a.batch.now a.j) = c.rank-at.ensures.0 ∙ ap (rank_in a.index.now a.n) e in
    let s = c.insert.ensures ∙ (λ t. inserted a.index.now (r t) a.n a.j (e t)) in
    record { place = r; within = c.rank-at.ensures.1; size = ap length s ∙ inserted-length a.index.now _ a.n a.j _; words = s }
