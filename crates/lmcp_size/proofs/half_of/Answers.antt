-- `lmcp_size::half_of` meets its contract.
use Rattle.wire.proofs.Basics.{sym, ap, ℕ, ◌-◌, ◌*◌, ◌^◌}
use Rattle.lmcp_size.proofs.WriteCases.{wide-last}
use Rattle.lmcp_size.proofs.half_of.Goals as goal

pub returns-then-w-eq4 : goal.returns-then-w-eq4
returns-then-w-eq4 c = sym (ap (λ (n : ℕ). 2 ^ (8 * n - 1)) c.if-w-eq4.true)

pub returns-then-w-eq2 : goal.returns-then-w-eq2
returns-then-w-eq2 c = sym (ap (λ (n : ℕ). 2 ^ (8 * n - 1)) c.if-w-eq2.true)

pub returns-then-w-eq1 : goal.returns-then-w-eq1
returns-then-w-eq1 c = sym (ap (λ (n : ℕ). 2 ^ (8 * n - 1)) c.if-w-eq1.true)

pub returns : goal.returns
returns c =
    sym (ap (λ (n : ℕ). 2 ^ (8 * n - 1)) (wide-last c.requires c.if-w-eq4.false c.if-w-eq2.false c.if-w-eq1.false))
