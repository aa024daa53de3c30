use Rattle.wire.proofs.Basics.{◌∙◌, sym, ap, ◌+◌, ◌||◌, drop, arith}
use Rattle.std.proofs.lemmas.Result.{err_from_is_err_and}
use Rattle.ack_blocks.specs.Read.{refuses, blocks_in, told}
use Rattle.ack_blocks.specs.InsideWalk.{also}
use Rattle.ack_blocks.proofs.BlockCases.{fault-kind}
use Rattle.ack_blocks.proofs.BlockTurns.{judged-bad, judged-good, also-none, walk-next, walk-bad, walk_end}
use Rattle.ack_blocks.proofs.walk.Goals as goal

pub loop-at-init : goal.loop-at-init
loop-at-init c =
    let a = c.args in
    also-none (told a.n (blocks_in a.b.now))

pub fault_at-requires : goal.fault_at-requires
fault_at-requires c = (record { place = omega arith; fits = omega arith }, c.in_ok-kind.ensures)

pub returns-in_err-kind : goal.returns-in_err-kind
returns-in_err-kind c =
    let a = c.args in
    let l = c.loop-at in
    let p = err_from_is_err_and c.from_residual.result c.from_residual.ensures.1 in
    let e = c.in_err-kind.ensures in
    let f = fault-kind (drop l.at a.b.now) e.1 in
    rw (p.1, p.2, e.0)
    (sym (l.invariant ∙ walk-bad a.b.now l.found a.n l.at c.loop-at-test.true (λ h. omega (arith, f, h)) ∙ ap refuses f))

pub returns-in_err-fault_at : goal.returns-in_err-fault_at
returns-in_err-fault_at c =
    let a = c.args in
    let l = c.loop-at in
    let p = err_from_is_err_and c.from_residual-in_err-fault_at.result c.from_residual-in_err-fault_at.ensures.1 in
    let e = judged-bad _ _ c.in_err-fault_at.ensures in
    rw (p.1, p.2) (sym (l.invariant ∙ walk-bad a.b.now l.found a.n l.at c.loop-at-test.true e.1 ∙ ap refuses (sym e.0)))

pub loop-at-preserved : goal.loop-at-preserved
loop-at-preserved c =
    let a = c.args in
    let l = c.loop-at in
    l.invariant
    ∙ walk-next a.b.now l.found a.n l.at c.loop-at-test.true (judged-good _ c.in_ok-fault_at.ensures)
    ∙ (λ i. also (l.found || sym c.has_at-found.ensures i) (told a.n (blocks_in (drop (l.at + sym c.size_at-at.ensures.0 i) a.b.now))))

pub returns : goal.returns
returns c =
    let a = c.args in
    let l = c.loop-at in
    sym (l.invariant ∙ walk_end a.b.now l.found a.n l.at c.loop-at-test.false)
