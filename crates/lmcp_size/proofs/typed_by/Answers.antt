-- `lmcp_size::typed_by` meets its contract.
use Rattle.wire.proofs.Basics.{◌∙◌, ◌≡◌, ap, subst, true, false, ℤ, pos}
use lib.Signed.{mag, lt_z}
use Rattle.lmcp.specs.Table.{pitsurv}
use Rattle.lmcp.proofs.Sizes.{through}
use Rattle.lmcp_size.proofs.WriteCases.{negative-typed, positive-typed}
use Rattle.lmcp_size.proofs.typed_by.Goals as goal

pub returns-then-z-lt0 : goal.returns-then-z-lt0
returns-then-z-lt0 c =
    negative-typed (pitsurv c.args.version) c.args.declared c.args.z (subst (λ (y : ℤ). lt_z y (pos 0) ≡ true) (through c.args.z c.ranges.z) c.if-z-lt0.true)

pub returns : goal.returns
returns c =
    c.typed_in.ensures ∙ positive-typed (pitsurv c.args.version) c.args.declared c.args.z c.size_of.result (c.size_of.ensures ∙ ap mag (through c.args.z c.ranges.z))
    (subst (λ (y : ℤ). lt_z y (pos 0) ≡ false) (through c.args.z c.ranges.z) c.if-z-lt0.false)
