-- The lines of a report, one group behind the other. Assumes nothing.
use Rattle.output.proofs.Adding.{adds_then}
use Rattle.count_pits.proofs.pour_report.Goals as goal

pub returns : goal.returns
returns c =
    adds_then (adds_then (adds_then c.pour_totals.ensures c.pour_refusals.ensures) c.pour_lists.ensures) c.pour_tiles.ensures
