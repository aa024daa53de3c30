-- `lmcp::half` meets its contract: the constant's entries are those powers, by one computed test.
use Rattle.wire.proofs.Basics.{◌∙◌, ap, refl, ℕ, ◌-◌, ◌*◌, ◌^◌, List, [], ◌∷◌, Bool, get_or, eqb, eqb-true, arith}
use Rattle.lmcp.proofs.Tables.{under}
use Rattle.lmcp.proofs.half.Goals as goal

abbrev halves : List ℕ
halves = 1 ∷ 128 ∷ 32768 ∷ 8388608 ∷ 2147483648 ∷ 549755813888 ∷ 140737488355328 ∷ 36028797018963968 ∷ 9223372036854775808 ∷ []

abbrev right : ℕ → Bool
right w = eqb (get_or halves w 0) (2 ^ (8 * w - 1))

pub returns : goal.returns
returns c =
    let w = c.least.result in
    eqb-true (get_or halves w 0) (2 ^ (8 * w - 1)) (under right 9 refl w (let e = c.least.ensures in omega arith)) ∙ ap (λ (n : ℕ). 2 ^ (8 * n - 1)) c.least.ensures
