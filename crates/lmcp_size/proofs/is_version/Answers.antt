-- `lmcp_size::is_version` meets its contract.
use Rattle.wire.proofs.Basics.{◌∙◌, sym, ap}
use Rattle.lmcp.specs.Value.{below}
use Rattle.lmcp.proofs.Sizes.{through}
use Rattle.lmcp_size.proofs.WriteCases.{version_low, version-high}
use Rattle.lmcp_size.proofs.is_version.Goals as goal

pub returns-then-below_of : goal.returns-then-below_of
returns-then-below_of c =
    let z = c.args.z in
    version_low z (sym (c.below_of.ensures ∙ ap (below 1) (through z c.ranges.z)) ∙ c.if-below_of.true)

pub returns : goal.returns
returns c =
    let z = c.args.z in
    let same = through z c.ranges.z in
    c.below_of-2.ensures ∙ ap (below 3) same ∙ version-high z (sym (c.below_of.ensures ∙ ap (below 1) same) ∙ c.if-below_of.false)
