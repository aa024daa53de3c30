-- `verdict::at_small` meets its contract. Assumes nothing.
use Rattle.wire.proofs.Basics.{sym, ap}
use Rattle.verdict.specs.Inside.{small_verdict}
use Rattle.verdict.proofs.at_small.Goals as goal

pub returns-in-Some : goal.returns-in-Some
returns-in-Some c =
    let args = c.args in
    sym (ap (small_verdict args.h) c.in-Some.is)

pub returns-in-None : goal.returns-in-None
returns-in-None c =
    let args = c.args in
    sym (ap (small_verdict args.h) c.in-None.is)
