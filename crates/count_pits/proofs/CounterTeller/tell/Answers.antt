-- The lines of what the count answers are those of the outcome, and all of them are written out. Assumes nothing.
use Rattle.wire.proofs.Basics.{◌∙◌, ap, append-nil}
use Rattle.output.proofs.Adding.{adds_is, ends_is, ends_then}
use Rattle.count_pits.specs.Lines.{outcome_lines, count_lines_lem}
use Rattle.count_pits.proofs.StructLines.{same_lines}
use Rattle.count_pits.proofs.CounterTeller.tell.Goals as goal

pub returns : goal.returns
returns c =
    let k = c.count_log-counted.ensures in
    ends_is (ends_then (adds_is c.pour_count.ensures (ap count_lines_lem k.gave ∙ same_lines k.outcome ∙ ap outcome_lines k.says.gave)) c.write_out.ensures) (append-nil _)
