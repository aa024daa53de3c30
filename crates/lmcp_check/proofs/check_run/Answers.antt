-- `lmcp_check::check_run` meets its contract.
use Rattle.lmcp_check.specs.InsideChecks.{cut, odd, bare, truly}
use Rattle.lmcp_check.proofs.check_run.Goals as goal

pub returns-then-s-p : goal.returns-then-s-p
returns-then-s-p c = cut c.if-s-p.true

pub returns-then-ended-eq0 : goal.returns-then-ended-eq0
returns-then-ended-eq0 c = bare c.if-s-p.false c.if-ended-eq0.true

pub returns-then-s-p-gt1 : goal.returns-then-s-p-gt1
returns-then-s-p-gt1 c = odd c.if-s-p.false c.if-ended-eq0.false c.if-s-p-gt1.true

pub returns : goal.returns
returns c = truly c.if-s-p.false c.if-ended-eq0.false c.if-s-p-gt1.false
