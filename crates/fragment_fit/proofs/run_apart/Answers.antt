use Rattle.wire.proofs.Basics.{◌≡◌, ap, refl, not, arith}
use Rattle.fragment_fit.specs.Inside.{apart_in}
use Rattle.fragment_fit.proofs.Aparts.{none_more, one_more}
use Rattle.fragment_fit.proofs.run_apart.Goals as goal
use Rattle.fragment_fit.proofs.run_apart.Goals.{then-held-here, else-held-here}

pub loop-b-init : goal.loop-b-init
loop-b-init c = (omega arith, refl)

pub loop-b-preserved : goal.loop-b-preserved
loop-b-preserved c =
    let l = c.loop-b in
    let a = c.args in
    let p = apart_in a.w a.ledger.now a.at a.below a.offset a.len in
    let here = c.crosses-here.ensures in (
      elim c.if-held-here.branch [ then-held-here w ↦ omega arith | else-held-here w ↦ omega arith ],
      elim c.if-held-here.branch [
        | then-held-here w ↦ one_more p l.b l.crossed _ (ap not (rw here at w.if-held-here.true)) w.crossed-is
        | else-held-here w ↦ none_more p l.b l.crossed _ l.invariant.1 (ap not (rw here at w.if-held-here.false)) w.crossed-is
      ],
    )

pub returns : goal.returns
returns c =
    let e : c.loop-b.b ≡ c.args.m = omega arith in
    rw e at c.loop-b.invariant.1
