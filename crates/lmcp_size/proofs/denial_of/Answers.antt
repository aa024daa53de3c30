-- `lmcp_size::denial_of` meets its contract.
use Rattle.lmcp_size.proofs.WriteCases.{denial-char, denial-other}
use Rattle.lmcp_size.proofs.denial_of.Goals as goal

pub returns-then-kind-eq-CHAR_KIND : goal.returns-then-kind-eq-CHAR_KIND
returns-then-kind-eq-CHAR_KIND c = denial-char _ c.if-kind-eq-CHAR_KIND.true

pub returns : goal.returns
returns c = denial-other _ c.if-kind-eq-CHAR_KIND.false
