-- A block that was laid lies within the output. Assumes nothing.
use Rattle.wire.proofs.Basics.{◌∙◌, sym, ◌≡◌, ap, refl, ℕ, ◌≤◌, ◌+◌, List, true, false, Bool, length, ltb, ltb-false, arith}
use Rattle.wire.specs.Choice.{◌when◌else◌}
use Rattle.moss.specs.Limits.{max_message}
use Rattle.moss.specs.Packet.{gives, refuses}
use Rattle.std.proofs.Common.{Result, Ok}
use Rattle.refusals.specs.declared.Refusal.{Refusal}
use Rattle.moss_writer.specs.Write.{laid_of, writes}

module _ (m : List ℕ) (at room n : ℕ) where
  by_tests : (x y : Bool) → ltb room (at + (2 + length m)) ≡ y → gives n ≡ (refuses 51 when x else refuses 55 when y else gives (2 + length m)) → at + n ≤ room
  by_tests true y e q = absurd (let z : ◌≡◌ {A = ℕ} 0 1 = cc in let w : ⊥ = omega arith in w)
  by_tests false true e q = absurd (let z : ◌≡◌ {A = ℕ} 0 1 = cc in let w : ⊥ = omega arith in w)
  by_tests false false e q = let k : n ≡ 2 + length m = cc in let l = ltb-false room (at + (2 + length m)) e in omega arith

  pub laid-within : (r : Result ℕ Refusal) → writes r ≡ laid_of m at room → r ≡ Ok n → at + n ≤ room
  unfolding laid_of
  laid-within r e q = by_tests (ltb max_message (length m)) (ltb room (at + (2 + length m))) refl (sym (ap writes q) ∙ e)
