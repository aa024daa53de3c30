-- `lmcp_check::null_at` meets its contract.
use Rattle.wire.proofs.Basics.{le-ltb, lt-ltb}
use Rattle.lmcp_check.proofs.null_at.Goals as goal

pub returns-then-at-s : goal.returns-then-at-s
returns-then-at-s c = rw (lt-ltb _ _ c.if-at-s.true)

pub returns : goal.returns
returns c = rw (le-ltb _ _ c.if-at-s.false)
