use Rattle.wire.proofs.Basics.{◌∙◌, sym, ap, ℕ, List, arith}
use Rattle.std.proofs.Common.{Ok}
use Rattle.std.proofs.lemmas.Result.{err_from_is_err_and}
use Rattle.wire.specs.Bytes.{Bytes}
use Rattle.datagram.specs.Read.{Read, read_datagram_lem}
use Rattle.flight_log.specs.Step.{step_told}
use Rattle.log_index.specs.Index.{row_for, rows_from}
use Rattle.log_index.proofs.Gathers.{ahead, next-found, next-ended, next-refused}
use Rattle.index_builder.proofs.EntryTurns.{going_start, going_next, going-refused, going-none, going_done}
use Rattle.index_builder.proofs.walk.Goals as goal

pub loop-entry-init : goal.loop-entry-init
loop-entry-init c =
    let a = c.args in
    (omega arith, (omega arith, going_start a.index.now a.n (rows_from a.limits a.log.now a.from) a.batch.now))

pub loop-entry-smaller : goal.loop-entry-smaller
loop-entry-smaller c =
    let a = c.args in
    let all : Bytes a.log.now = λ i. (c.type_inv.log i).fits in
    let g = next-found a.limits a.log.now all c.loop-entry.at _ (sym c.next_entry.ensures ∙ ap step_told (c.in_ok-entry.was ∙ ap Ok c.in-Some.is)) in
    omega (arith, g.on, g.within)

pub loop-entry-preserved : goal.loop-entry-preserved
loop-entry-preserved c =
    let a = c.args in
    let l = c.loop-entry in
    let all : Bytes a.log.now = λ i. (c.type_inv.log i).fits in
    let g = next-found a.limits a.log.now all l.at _ (sym c.next_entry.ensures ∙ ap step_told (c.in_ok-entry.was ∙ ap Ok c.in-Some.is)) in
    let e = c.enter_datagram-m.ensures in
    let t = c.settle-held.ensures in
    let w = c.in-Some.entry in
    let d : List ℕ → Read = λ b. read_datagram_lem a.limits.payload a.limits.fragments b in
    let h = g.rows ∙ ap (λ (b : List ℕ). ahead (row_for w.sender l.at (d b)) (rows_from a.limits a.log.now w.next)) (sym c.part.ensures) in
    (omega (arith, t.sum, e.next, e.few, l.invariant.0, g.on), (omega (arith, g.within), going_next _ _ _ _ _ _ _ _ _ l.invariant.1.1 _ _ h _ _ e _ _ _ t))

pub returns-in_err-entry : goal.returns-in_err-entry
returns-in_err-entry c =
    let a = c.args in
    let l = c.loop-entry in
    let all : Bytes a.log.now = λ i. (c.type_inv.log i).fits in
    let p = err_from_is_err_and c.from_residual.result c.from_residual.ensures.1 in
    let e = next-refused a.limits a.log.now all l.at _ (sym c.next_entry.ensures ∙ ap step_told c.in_err-entry.was) in
    rw (p.1, p.2)
    (record {
      answer = going-refused _ _ _ _ _ _ _ _ _ l.invariant.1.1 _ e;
      size = l.invariant.1.1.size;
      words = λ o rs d. absurd (going-none _ _ _ _ _ _ _ _ _ l.invariant.1.1 _ e rs d);
    })

pub returns : goal.returns
returns c =
    let a = c.args in
    let l = c.loop-entry in
    let all : Bytes a.log.now = λ i. (c.type_inv.log i).fits in
    let e = next-ended a.limits a.log.now all l.at (sym c.next_entry.ensures ∙ ap step_told (c.in_ok-entry.was ∙ ap Ok c.in_default.is)) in
    going_done _ _ _ _ _ _ _ _ _ l.invariant.1.1 e _ c.merge.ensures
