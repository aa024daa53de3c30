use Rattle.stream.proofs.Passing.{grown-none, grown-more, grown-is}
use Rattle.stream.proofs.fill.Goals as goal

pub loop-e-init : goal.loop-e-init
loop-e-init c = (c.requires.0, grown-none c.args.buf.now c.args.end c.requires.1)

pub returns-then-more-e : goal.returns-then-more-e
returns-then-more-e c =
    grown-is (grown-more c.loop-e.invariant.1 c.read_from-more.ensures) c.if-more-e.true

pub loop-e-preserved : goal.loop-e-preserved
loop-e-preserved c =
    (c.loop-e.invariant.0, grown-more c.loop-e.invariant.1 c.read_from-more.ensures)

pub returns : goal.returns
returns c = c.loop-e.invariant.1
