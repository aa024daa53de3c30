-- Sums over a list. Assumes nothing.
use Rattle.wire.proofs.Basics.{◌∙◌, ◌≡◌, ap, refl, ℕ, ◌+◌, List, [], ◌∷◌, ◌++◌, map, length, length-append, arith}
use Rattle.sorted_set.specs.Lists.{gather, total}

pub total-append : {A : Type 0} (w : A → ℕ) (l m : List A) → total w (l ++ m) ≡ total w l + total w m
total-append w [] m = omega arith
total-append w (x ∷ l) m = rw (total-append w l m) (omega arith)

pub total-map : {A B : Type 0} (g : A → B) (w : B → ℕ) (l : List A) → total w (map g l) ≡ total (λ x. w (g x)) l
total-map g w [] = refl
total-map g w (x ∷ l) = rw (total-map g w l)

pub length-total : {A : Type 0} (l : List A) → length l ≡ total (λ (x : A). 1) l
length-total [] = refl
length-total (x ∷ l) = rw (length-total l) (omega arith)

pub length-gather : {A B : Type 0} (h : A → List B) (l : List A) → length (gather h l) ≡ total (λ (x : A). length (h x)) l
length-gather h [] = refl
length-gather h (x ∷ l) = length-append (h x) (gather h l) ∙ ap (λ (n : ℕ). length (h x) + n) (length-gather h l)
