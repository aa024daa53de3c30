-- NO SECOND ANSWER satisfies the contract of `enter`; for `rank` it is wire's `one_answer`. Assumes nothing.
use Rattle.wire.proofs.Basics.{◌∙◌, sym, ◌≡◌, ℕ, List}
use Rattle.std.proofs.Common.{Option}
use Rattle.sorted_set.specs.Halving.{Enters}

pub enter-once : {w : List ℕ} {n x : ℕ} {a b : Option ℕ} {u v : List ℕ} → Enters w n x a u → Enters w n x b v → (a ≡ b) × (u ≡ v)
enter-once p q = (p.gave ∙ sym q.gave, p.left ∙ sym q.left)
