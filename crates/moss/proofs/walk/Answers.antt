use Rattle.wire.proofs.Basics.{◌∙◌, sym, ap, ◌+◌, drop, arith}
use Rattle.moss.specs.Blocks.{messages_in}
use Rattle.moss.specs.InsideWalk.{walked}
use Rattle.moss.specs.declared.Trail.{Trail}
use Rattle.moss.proofs.MessageTurn.{walk-next, walk-broken, walk_end}
use Rattle.moss.proofs.walk.Goals as goal

pub returns-then-b-at : goal.returns-then-b-at
returns-then-b-at c =
    let l = c.loop-at in
    let a = c.args in
    sym (l.invariant.1 ∙ walk-broken a.b.now l.t a.n l.at c.loop-at-test.true _ c.size_at-m.ensures.0 c.if-b-at.true)

pub loop-at-preserved : goal.loop-at-preserved
loop-at-preserved c =
    let l = c.loop-at in
    let a = c.args in
    let k = c.size_at-m in
    let next = walk-next a.b.now l.t a.n l.at c.loop-at-test.true k.result k.ensures.0 c.if-b-at.false in (
      omega (arith, ap (λ (t : Trail). t.count) c.pass-t.ensures),
      l.invariant.1
          ∙ next
          ∙ ap (λ (t : Trail). walked t a.n (l.at + (2 + k.result)) (messages_in (drop (l.at + (2 + k.result)) a.b.now))) (sym c.pass-t.ensures),
    )

pub returns : goal.returns
returns c =
    let l = c.loop-at in
    let a = c.args in
    sym (l.invariant.1 ∙ walk_end a.b.now l.t a.n l.at c.loop-at-test.false)
