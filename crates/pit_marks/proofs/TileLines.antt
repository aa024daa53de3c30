-- One tile's line more. Assumes nothing.
use Rattle.wire.proofs.Basics.{◌∙◌, sym, ◌≡◌, ap, ℕ, ◌≤◌, ◌+◌, ◌<◌, List, length, take, set, take_all, arith}
use Rattle.wire.specs.Overlay.{overlay}
use Rattle.wire.proofs.Overlays.{overlay-nil, overlay-turn}
use Rattle.words.specs.Builds.{build}
use Rattle.words.proofs.Builds.{length-build, get_or-build}

module _ (w : List ℕ) (n : ℕ) (f : ℕ → ℕ) where
  -- the first i of n numbers, at the start
  abbrev pub laid : ℕ → List ℕ
  laid i = overlay w 0 (take i (build n f))

  pub laid_none : w ≡ laid 0
  laid_none = sym (overlay-nil w 0)

  pub laid_more : (i x : ℕ) (v v' : List ℕ) → i < n → v ≡ laid i → x ≡ f i → v' ≡ set v i x → v' ≡ laid (i + 1)
  laid_more i x v v' h e q g =
      let k : i < length (build n f) = rw (length-build n f) h in
      let z : 0 + i ≡ i = omega arith in
      g ∙ ((λ j. set (e j) (sym z j) ((q ∙ sym (get_or-build n f i 0 h)) j)) ∙ overlay-turn w 0 (build n f) i k)

  pub laid-all : (i : ℕ) (v : List ℕ) → n ≤ i → v ≡ laid i → v ≡ overlay w 0 (build n f)
  laid-all i v h e = e ∙ ap (overlay w 0) (take_all i (build n f) (rw (length-build n f) h))
