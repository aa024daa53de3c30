-- `lmcp_check::check_root` meets its contract: a root that is none, a null, and then the walk.
use Rattle.wire.proofs.Basics.{◌∙◌, sym, ◌≡◌, subst, ℕ, arith}
use Rattle.std.proofs.lemmas.Result.{err_from_is_err_and}
use Rattle.wire.specs.Bytes.{be}
use Rattle.lmcp.proofs.Widths.{be-one}
use Rattle.lmcp_check.specs.InsideSteps.{read_object}
use Rattle.lmcp_check.specs.InsideChecks.{Checks}
use Rattle.lmcp_check.proofs.Roots.{empty-root, null-root, root-refused, root-left, root-good}
use Rattle.lmcp_check.proofs.check_root.Goals as goal
use Rattle.lmcp_check.proofs.check_root.Goals.{After-wide}

-- the root, its version, and its first byte

first : (c : After-wide) → c.wide.result ≡ be 1 c.args.s.now
first c = be-one c.args.s.now 0 _ c.wide.ensures.0

pub returns-then-s-eq0 : goal.returns-then-s-eq0
returns-then-s-eq0 c = let a = c.args in empty-root a.version a.s.now c.if-s-eq0.true

pub returns-then-wide-eq0 : goal.returns-then-wide-eq0
returns-then-wide-eq0 c =
    let w = (goal.at.returns-then-wide-eq0 c).After-wide in
    null-root c.args.version c.args.s.now (omega (arith, c.if-s-eq0.false)) (sym (first w) ∙ c.if-wide-eq0.true)

pub returns-in_err-end : goal.returns-in_err-end
returns-in_err-end c =
    let w = (goal.at.returns-in_err-end c).After-wide in
    let p = err_from_is_err_and c.from_residual.result c.from_residual.ensures.1 in
    rw (p.1, p.2) (root-refused c.args.version c.args.s.now (λ z. c.if-wide-eq0.false (first w ∙ z)) c.check_object.result (subst (λ (v : ℕ). Checks c.args.s.now (read_object v 16 0 c.args.s.now) c.check_object.result) c.of.ensures c.check_object.ensures) _ c.in_err-end.was)

pub returns-then-end-s : goal.returns-then-end-s
returns-then-end-s c =
    let w = (goal.at.returns-then-end-s c).After-wide in
    root-left c.args.version c.args.s.now (λ z. c.if-wide-eq0.false (first w ∙ z)) c.check_object.result (subst (λ (v : ℕ). Checks c.args.s.now (read_object v 16 0 c.args.s.now) c.check_object.result) c.of.ensures c.check_object.ensures) _ c.in_ok-end.was c.if-end-s.true

pub returns : goal.returns
returns c =
    let w = (goal.at.returns c).After-wide in
    root-good c.args.version c.args.s.now (λ z. c.if-wide-eq0.false (first w ∙ z)) c.check_object.result (subst (λ (v : ℕ). Checks c.args.s.now (read_object v 16 0 c.args.s.now) c.check_object.result) c.of.ensures c.check_object.ensures) _ c.in_ok-end.was c.if-end-s.false
