-- NO SECOND ANSWER satisfies the contract of `pits_from`, nor leaves other outputs. Assumes nothing.
use Rattle.wire.proofs.Basics.{◌∙◌, sym, ◌≡◌, ap, ℕ, List}
use Rattle.std.proofs.Common.{Result, Ok, Err}
use Rattle.wire.specs.Slices.{◌⇒◌}
use Rattle.refusals.specs.declared.Refusal.{Refusal}
use Rattle.refusals.specs.Numbers.{number_of}
use Rattle.refusals.proofs.Names.{same_number}
use Rattle.tile_pits.specs.Pits.{Pits, told, Map, GivesPits}

-- what the code answers says one thing
pub told-once : (r s : Result ℕ Refusal) → told r ≡ told s → r ≡ s
told-once (Ok m) (Ok n) e = let f : m ≡ n = cc in ap Ok f
told-once (Ok m) (Err s) e = cc
told-once (Err r) (Ok n) e = cc
told-once (Err r) (Err s) e = let f : number_of r ≡ number_of s = cc in ap Err (same_number r s f)

pub pits-once : {x : Map} {t : ℕ} {a b a₁ b₁ a₂ b₂ : List ℕ} {r s : Pits} → GivesPits x t (a ⇒ a₁) (b ⇒ b₁) r → GivesPits x t (a ⇒ a₂) (b ⇒ b₂) s
    → (r ≡ s) × ((a₁ ≡ a₂) × (b₁ ≡ b₂))
pits-once p q = (p.gave ∙ sym q.gave, (p.numbers ∙ sym q.numbers, p.sureness ∙ sym q.sureness))
