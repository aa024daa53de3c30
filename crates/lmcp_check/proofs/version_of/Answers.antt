-- `lmcp_check::version_of` meets its contract.
use Rattle.wire.proofs.Basics.{◌∙◌, sym, ap, ℕ, Bool, eq-eqb, ne_eqb}
use Rattle.wire.specs.Choice.{pick}
use Rattle.lmcp_check.proofs.version_of.Goals as goal

pub returns-then-v-eq2 : goal.returns-then-v-eq2
returns-then-v-eq2 c = c.if-v-eq2.true ∙ sym (ap (λ (t : Bool). pick {X = ℕ} t 2 1) (eq-eqb _ 2 (sym c.number-v.ensures.value ∙ c.if-v-eq2.true)))

pub returns : goal.returns
returns c = sym (ap (λ (t : Bool). pick {X = ℕ} t 2 1) (ne_eqb _ 2 (λ e. c.if-v-eq2.false (c.number-v.ensures.value ∙ e))))
