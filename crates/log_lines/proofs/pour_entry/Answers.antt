-- `log_lines::pour_entry` meets its contract: its pieces, one behind the other. Assumes nothing.
use Rattle.output.proofs.Adding.{adds_then}
use Rattle.log_lines.proofs.pour_entry.Goals as goal

pub returns : goal.returns
returns c =
    adds_then (adds_then (adds_then c.pour_decimal.ensures c.pour_counted.ensures) c.pour_counted-2.ensures) c.pour_counted_line.ensures
