use Rattle.wire.proofs.Basics.{◌∙◌, sym, ◌≡◌, ap, refl, ℕ, ◌*◌, ◌^◌, ◌%◌, ◌/◌, true, ltb, arith}
use Rattle.steps.specs.Search.{all_below}
use Rattle.fragment_fit.specs.Inside.{apart_at, apart_in}
use Rattle.fragment_fit.proofs.Aparts.{run-passes, run_fails, run-word, zero-apart}
use Rattle.fragment_fit.proofs.all_apart.Goals as goal
use Rattle.fragment_fit.proofs.all_apart.Goals.{then-w-ne0+else-not-run_apart, else-w-ne0}

pub loop-j-init : goal.loop-j-init
loop-j-init c = (omega arith, refl)

pub returns-then-not-run_apart : goal.returns-then-not-run_apart
returns-then-not-run_apart c =
    let l = c.loop-j in
    let a = c.args in
    let m = c.run_length-m in
    let e = ap (λ (x : ℕ). x / 2 ^ (l.j % 64)) c.word.ensures in
    let run = run-word a.held.now a.ledger.now a.k a.offset a.len l.j m.result m.ensures.1 m.ensures.3 _ e in
    sym (run_fails (apart_at a.held.now a.ledger.now a.k a.offset a.len) a.n l.j m.result (omega arith) (run ∙ sym c.run_apart.ensures ∙ c.if-not-run_apart.true))

pub loop-j-preserved : goal.loop-j-preserved
loop-j-preserved c =
    let l = c.loop-j in
    let a = c.args in
    let m = c.run_length-m in
    let e = ap (λ (x : ℕ). x / 2 ^ (l.j % 64)) c.word.ensures in
    let run = run-word a.held.now a.ledger.now a.k a.offset a.len l.j m.result m.ensures.1 m.ensures.3 _ e in
    let passed : all_below m.result (apart_in (c.word.result / 2 ^ (l.j % 64)) a.ledger.now (2 * l.j) (ltb l.j a.k) a.offset a.len) ≡ true = elim c.if-w-ne0.branch [
      | then-w-ne0+else-not-run_apart w ↦ sym w.run_apart.ensures ∙ w.if-not-run_apart.false
      | else-w-ne0 w ↦ zero-apart _ m.result a.ledger.now (2 * l.j) (ltb l.j a.k) a.offset a.len w.if-w-ne0.false
    ] in
    (omega arith, run-passes (apart_at a.held.now a.ledger.now a.k a.offset a.len) l.j m.result l.invariant.1 (run ∙ passed))

pub returns : goal.returns
returns c =
    let e : c.loop-j.j ≡ c.args.n = omega arith in
    sym (rw e at c.loop-j.invariant.1)
