-- No line for none, else its pieces. Assumes nothing.
use Rattle.output.proofs.Adding.{adds_none, adds_is, adds_then}
use Rattle.count_lines.proofs.OneLineMore.{refused_none, refused-some}
use Rattle.count_lines.proofs.pour_refused.Goals as goal

pub returns-then-n-eq0 : goal.returns-then-n-eq0
returns-then-n-eq0 c = adds_is (adds_none c.args.out.now) (refused_none c.args.number c.args.n c.if-n-eq0.true)

pub returns : goal.returns
returns c = adds_is (adds_then c.pour_counted.ensures c.pour_counted_line.ensures) (refused-some c.args.number c.args.n c.if-n-eq0.false)
