-- The rows from a place on or from the first entry, or the refusal of the head. Assumes nothing.
use Rattle.wire.proofs.Basics.{◌∙◌, ◌≡◌, sym, ap, ℕ, length-replicate, rules, arith}
use Prim.Native.Nat.{max}
use Rattle.std.proofs.lemmas.Result.{err_from_is_err_and}
use Rattle.log_index.specs.Index.{rows_from}
use Rattle.index_builder.specs.Adds.{rows_on}
use Rattle.index_builder.proofs.Answers.{head-on, head-none-on, adds_same, adds-batch, stops}
use Rattle.index_builder.proofs.index_on.Goals as goal

pub returns : goal.returns
returns c =
    let a = c.args in
    let m : max a.from c.in_ok-first.first ≡ c.max-start.result = search rules in
    let e = head-on a.log.now _ a.from _ (sym c.in_ok-first.ensures) ∙ ap (rows_from _ a.log.now) m in
    adds_same _ _ a.index.now a.n _ _ e (adds-batch c.add_within.ensures (omega (arith, length-replicate {A = ℕ} 3072 0)))

pub returns-in_err-first : goal.returns-in_err-first
returns-in_err-first c =
    let a = c.args in
    let p = err_from_is_err_and c.from_residual.result c.from_residual.ensures.1 in
    let e = head-none-on a.log.now a.from _ (sym c.in_err-first.ensures) in
    rw (p.1, p.2) (stops (rows_on a.log.now a.from) a.index.now a.n _ e)
