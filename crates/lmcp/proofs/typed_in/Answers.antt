-- `lmcp::typed_in` meets its contract, case by case.
use Rattle.lmcp.specs.Table.{pitsurv}
use Rattle.lmcp.proofs.Types.{typed-low, typed-high, typed_any, typed-declared}
use Rattle.lmcp.proofs.typed_in.Goals as goal

pub returns-then-n-lt1 : goal.returns-then-n-lt1
returns-then-n-lt1 c = typed-low (pitsurv c.args.version) _ _ c.if-n-lt1.true

pub returns-then-n-ge-TYPES : goal.returns-then-n-ge-TYPES
returns-then-n-ge-TYPES c = typed-high (pitsurv c.args.version) _ _ c.if-n-ge-TYPES.true

pub returns-then-declared-eq0 : goal.returns-then-declared-eq0
returns-then-declared-eq0 c =
    typed_any (pitsurv c.args.version) _ _ c.if-n-lt1.false c.if-n-ge-TYPES.false c.if-declared-eq0.true

pub returns : goal.returns
returns c =
    typed-declared (pitsurv c.args.version) _ _ c.if-n-lt1.false c.if-n-ge-TYPES.false c.if-declared-eq0.false
