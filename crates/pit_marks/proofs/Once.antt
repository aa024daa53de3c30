-- NO SECOND ANSWER satisfies the contract of a list's entering, or of the tile lines; for `is_list` it is wire's `one_answer`. Assumes nothing.
use Rattle.wire.proofs.Basics.{◌∙◌, sym, ◌≡◌, ap, refl, ℕ, List, ℤ}
use Rattle.std.proofs.Common.{Result, Ok, Err}
use Rattle.refusals.specs.declared.Refusal.{Refusal}
use Rattle.refusals.specs.Numbers.{number_of}
use Rattle.refusals.proofs.Names.{same_number}
use Rattle.wire.specs.Slices.{◌⇒◌}
use Rattle.pit_marks.specs.declared.Sizes.{Sizes}
use Rattle.pit_marks.specs.Taken.{Taken}
use Rattle.pit_marks.specs.Told.{told}
use Rattle.pit_marks.specs.Sets.{Sets}
use Rattle.pit_marks.specs.Enters.{EntersList}
use Rattle.pit_marks.specs.Lines.{Lays}

pub list-once : {l : List ℤ} {x : Sets} {had : Sizes} {a b : Taken} {y z : Sets} → EntersList l x had a y → EntersList l x had b z → (a ≡ b) × (y ≡ z)
list-once p q = (p.gave ∙ sym q.gave, p.left ∙ sym q.left)

-- nor of the code: two answers that say one thing are one, with the sizes that are left
pub told-once : (r s : Result (Unit {0}) Refusal) (x y : Sizes) → told r x ≡ told s y → (r ≡ s) × (x ≡ y)
told-once (Ok u) (Ok v) x y e = let f : x ≡ y = cc in (refl, f)
told-once (Ok u) (Err s) x y e = cc
told-once (Err r) (Ok v) x y e = cc
told-once (Err r) (Err s) x y e =
    let f : x ≡ y = cc in
    let g : number_of r ≡ number_of s = cc in
    (ap Err (same_number r s g), f)

pub lines-once : {x : Sets} {had : Sizes} {a b c a₁ b₁ c₁ a₂ b₂ c₂ : List ℕ} → Lays x had (a ⇒ a₁) (b ⇒ b₁) (c ⇒ c₁) → Lays x had (a ⇒ a₂) (b ⇒ b₂) (c ⇒ c₂)
    → (a₁ ≡ a₂) × ((b₁ ≡ b₂) × (c₁ ≡ c₂))
lines-once x y = (x.numbers ∙ sym y.numbers, (x.pits-of ∙ sym y.pits-of, x.sure-of ∙ sym y.sure-of))
