-- Half of the places is left at each turn. Assumes nothing.
use Rattle.wire.proofs.Basics.{◌∙◌, sym, arith}
use Rattle.wire.proofs.Halves.{goes-behind, goes_before, ends, starts}
use Rattle.halving.proofs.partition_point.Goals as goal

pub loop-low-init : goal.loop-low-init
loop-low-init g c =
    (omega arith, (omega arith, starts (g.T.Halved.holds c.args.places.now) (g.T.Halved.many c.args.places.now) _ c.count-high.ensures))

pub loop-low-preserved-then-test : goal.loop-low-preserved-then-test
loop-low-preserved-then-test g c =
    let l = c.loop-low in
    let p = g.T.Halved.holds c.args.places.now in
    (omega arith, (omega arith, goes-behind p l.low l.high (omega arith) (sym c.test.ensures ∙ c.if-test.true) ∙ l.invariant.1.1))

pub loop-low-preserved : goal.loop-low-preserved
loop-low-preserved g c =
    let l = c.loop-low in
    let p = g.T.Halved.holds c.args.places.now in
    (omega arith, (omega arith, goes_before p l.low l.high (omega arith) (sym c.test.ensures ∙ c.if-test.false) ∙ l.invariant.1.1))

pub returns-clause-found : goal.returns-clause-found
returns-clause-found g c =
    let l = c.loop-low in
    sym (ends (g.T.Halved.holds c.args.places.now) l.low l.high (omega arith)) ∙ l.invariant.1.1
