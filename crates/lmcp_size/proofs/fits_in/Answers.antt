-- `lmcp_size::fits_in` meets its contract.
use Rattle.wire.proofs.Basics.{◌∙◌, ap}
use lib.Signed.{mag}
use Rattle.lmcp.specs.Value.{below}
use Rattle.lmcp.proofs.Sizes.{through}
use Rattle.lmcp_size.proofs.WriteCases.{fits_signed, fits-plain}
use Rattle.lmcp_size.proofs.fits_in.Goals as goal

pub returns-then-kind-eq-SIGNED_KIND : goal.returns-then-kind-eq-SIGNED_KIND
returns-then-kind-eq-SIGNED_KIND c =
    fits_signed c.args.kind c.args.w c.args.z c.size_of-n.result c.half_of-h.result c.if-kind-eq-SIGNED_KIND.true (c.size_of-n.ensures ∙ ap mag (through c.args.z c.ranges.z)) c.half_of-h.ensures

pub values_of-requires : goal.values_of-requires
values_of-requires c = (c.requires.wide, c.requires.less c.if-kind-eq-SIGNED_KIND.false)

pub returns : goal.returns
returns c =
    c.below_of.ensures ∙ ap (below c.values_of.result) (through c.args.z c.ranges.z) ∙ fits-plain c.args.kind c.args.w c.args.z c.values_of.result c.if-kind-eq-SIGNED_KIND.false c.values_of.ensures
