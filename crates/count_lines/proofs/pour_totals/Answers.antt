-- The four lines, one behind the other. Assumes nothing.
use Rattle.output.proofs.Adding.{adds_then}
use Rattle.count_lines.proofs.pour_totals.Goals as goal

pub returns : goal.returns
returns c =
    adds_then (adds_then (adds_then c.pour_counted_line.ensures c.pour_counted_line-2.ensures) c.pour_counted_line-3.ensures) c.pour_counted_line-4.ensures
