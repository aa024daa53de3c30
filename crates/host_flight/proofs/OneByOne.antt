-- Numbers that are laid one by one at the start of a list. Assumes nothing.
use Rattle.wire.proofs.Basics.{◌≡◌, ap, refl, ℕ, ◌≤◌, ◌<◌, suc, zero, List, [], ◌∷◌, length, get_or, take, set, le_of_suc-le-suc, not-suc-le-zero}
use Rattle.wire.specs.Overlay.{overlay}

pub laid_none : {X : Type 0} (d : List X) → overlay d 0 [] ≡ d
unfolding overlay
laid_none [] = refl
laid_none (x ∷ d) = refl

pub laid-next : {X : Type 0} (d s : List X) (i : ℕ) (x : X) → i < length s → length s ≤ length d → x ≡ get_or s i x → set (overlay d 0 (take i s)) i x ≡ overlay d 0 (take (suc i) s)
unfolding overlay
laid-next [] [] i x h l e = absurd (not-suc-le-zero h)
laid-next [] (z ∷ s) i x h l e = absurd (not-suc-le-zero l)
laid-next (y ∷ d) [] i x h l e = absurd (not-suc-le-zero h)
laid-next (y ∷ d) (z ∷ s) zero x h l e = rw (laid_none d) (ap (λ w. w ∷ d) e)
laid-next (y ∷ d) (z ∷ s) (suc i) x h l e = ap (λ w. z ∷ w) (laid-next d s i x (le_of_suc-le-suc h) (le_of_suc-le-suc l) e)
