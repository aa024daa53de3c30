-- `lmcp_size::values_of` meets its contract.
use Rattle.lmcp_size.proofs.WriteCases.{wide-some, values-bool, values-char, half-small, values-plain}
use Rattle.lmcp_size.proofs.values_of.Goals as goal

pub returns-then-kind-eq-BOOL_KIND : goal.returns-then-kind-eq-BOOL_KIND
returns-then-kind-eq-BOOL_KIND c = values-bool _ _ c.if-kind-eq-BOOL_KIND.true

pub returns-then-kind-eq-CHAR_KIND : goal.returns-then-kind-eq-CHAR_KIND
returns-then-kind-eq-CHAR_KIND c = values-char _ _ c.if-kind-eq-CHAR_KIND.true

pub overflow_add-result : goal.overflow_add-result
overflow_add-result c =
    record { fits = half-small c.args.kind c.args.w (wide-some c.requires.0).0 c.requires.1 c.half_of-h.result c.half_of-h.ensures }

pub returns : goal.returns
returns c =
    values-plain c.args.kind c.args.w (wide-some c.requires.0).0 c.requires.1 c.half_of-h.result c.half_of-h.ensures c.if-kind-eq-BOOL_KIND.false c.if-kind-eq-CHAR_KIND.false
