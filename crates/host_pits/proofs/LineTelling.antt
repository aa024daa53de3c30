-- Both ways in which the tile lines are told; no second answer. Assumes nothing.
use Rattle.wire.proofs.Basics.{◌∙◌, sym, ◌≡◌, ap, refl, subst, ℕ, List, true, false, Bool, inl, inr}
use Rattle.wire.specs.Slices.{◌⇒◌}
use Rattle.wire.proofs.Choices.{either, never}
use Rattle.pit_marks.specs.declared.Sizes.{Sizes}
use Rattle.pit_marks.specs.Sets.{Sets, held_in}
use Rattle.pit_marks.specs.Lines.{Lays}
use Rattle.pit_marks.proofs.Once.{lines-once}
use Rattle.host_pits.specs.Lines.{lacking, LinesTold}

module _ (x : Sets) (had : Sizes) (a b c : List ℕ) where
  pub not_written : (n : ℕ) → n ≡ (held_in x had).tiles → (lacks : Bool) → lacks ≡ lacking (a ⇒ a) (b ⇒ b) (c ⇒ c) n → lacks ≡ true → LinesTold x had (a ⇒ a) (b ⇒ b) (c ⇒ c) 13
  not_written n e l q h = record {
    unwritten = λ u. record { gave = refl; tiles = refl; pits = refl; sure = refl };
    written = λ u. never (sym (q ∙ ap (lacking (a ⇒ a) (b ⇒ b) (c ⇒ c)) e) ∙ h) u;
  }

  pub written-so : (now : Sizes) → now ≡ held_in x had → (lacks : Bool) → lacks ≡ lacking (a ⇒ a) (b ⇒ b) (c ⇒ c) now.tiles → lacks ≡ false → (a' b' c' : List ℕ) → Lays x now (a ⇒ a') (b ⇒ b') (c ⇒ c')
      → LinesTold x had (a ⇒ a') (b ⇒ b') (c ⇒ c') 0
  written-so now e l q h a' b' c' L = record {
    unwritten = λ u. never u (sym (q ∙ ap (λ (s : Sizes). lacking (a ⇒ a) (b ⇒ b) (c ⇒ c) s.tiles) e) ∙ h);
    written = λ u. record { gave = refl; lays = subst (λ (s : Sizes). Lays x s (a ⇒ a') (b ⇒ b') (c ⇒ c')) e L };
  }

  pub lines-told-once : {y z : ℕ} {a₁ b₁ c₁ a₂ b₂ c₂ : List ℕ} → LinesTold x had (a ⇒ a₁) (b ⇒ b₁) (c ⇒ c₁) y → LinesTold x had (a ⇒ a₂) (b ⇒ b₂) (c ⇒ c₂) z
      → (y ≡ z) × ((a₁ ≡ a₂) × ((b₁ ≡ b₂) × (c₁ ≡ c₂)))
  lines-told-once p q = elim (either (lacking (a ⇒ a) (b ⇒ b) (c ⇒ c) (held_in x had).tiles)) [
    | inl e ↦ let u = p.unwritten e in let v = q.unwritten e in (u.gave ∙ sym v.gave, (u.tiles ∙ sym v.tiles, (u.pits ∙ sym v.pits, u.sure ∙ sym v.sure)))
    | inr e ↦ let u = p.written e in let v = q.written e in (u.gave ∙ sym v.gave, lines-once u.lays v.lays)
  ]
