-- `log_lines::pour_last` meets its contract. Assumes nothing.
use Rattle.wire.proofs.Basics.{◌≡◌, [], rules}
use Rattle.output.proofs.Adding.{adds_none, adds_then, adds_is}
use Rattle.flight_log.specs.Step.{step_told}
use Rattle.log_lines.specs.Lines.{last_line, refused_line}
use Rattle.log_lines.proofs.pour_last.Goals as goal

pub returns-in-Ok-Some : goal.returns-in-Ok-Some
returns-in-Ok-Some c =
    let a = c.args in
    let e : [] ≡ last_line (step_told a.step) a.n = search rules in
    adds_is (adds_none a.out.now) e

pub returns-in-Err : goal.returns-in-Err
returns-in-Err c =
    let a = c.args in
    let e : refused_line c.number-number.result a.n ≡ last_line (step_told a.step) a.n = search rules in
    adds_is (adds_then c.pour_counted.ensures c.pour_counted_line-in-Err.ensures) e
