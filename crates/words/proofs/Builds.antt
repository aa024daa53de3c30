-- Lists that are built, element by element.
use Rattle.wire.proofs.Basics.{◌∙◌, sym, ◌≡◌, ap, refl, ℕ, ◌<◌, suc, zero, List, length, get_or, ext_get_or, arith}
use Rattle.words.specs.Builds.{build}

module _ {A : Type 0} where
  pub length-build : (n : ℕ) (f : ℕ → A) → length (build n f) ≡ n
  length-build zero f = refl
  length-build (suc n) f = ap suc (length-build n (λ i. f (suc i)))

  pub get_or-build : (n : ℕ) (f : ℕ → A) (i : ℕ) (d : A) → i < n → get_or (build n f) i d ≡ f i
  get_or-build zero f i d h = absurd (omega arith)
  get_or-build (suc n) f zero d h = refl
  get_or-build (suc n) f (suc i) d h = get_or-build n (λ j. f (suc j)) i d (omega arith)

  pub build-is : (n : ℕ) (f : ℕ → A) (l : List A) (d : A) → length l ≡ n → ((i : ℕ) → i < n → f i ≡ get_or l i d) → build n f ≡ l
  build-is n f l d e h = ext_get_or d (build n f) l (length-build n f ∙ sym e) (λ i k.
      let g : i < n = omega (arith, length-build n f) in
      get_or-build n f i d g ∙ h i g)
