-- Each run is as long as it can be: between two blocks of a rising list at least one number is missing. Assumes nothing.
use Rattle.wire.proofs.Basics.{◌≡◌, refl, ℕ, ◌+◌, ◌<◌, ◌-◌, List, [], ◌∷◌, true, eqb, ltb, eqb-true, ltb-true, eqb-false, arith}
use Rattle.wire.proofs.Choices.{pick_all, and_l, and_r}
use Rattle.ack_blocks.specs.Blocks.{Block, single, run, map}
use Rattle.ack_writer.specs.Write.{rising, rising_from, one_block, blocks_from, blocks_of}

abbrev pub first_of : Block → ℕ
first_of (single p) = p
first_of (run first last) = first
first_of (map start bits m) = start

abbrev pub last_of : Block → ℕ
last_of (single p) = p
last_of (run first last) = last
last_of (map start bits m) = start + bits - 1

-- the next block begins behind m and does not go on from it
abbrev pub Behind : ℕ → List Block → Type 0
Behind m [] = Unit {0}
Behind m (k ∷ bs) = m + 1 < first_of k

abbrev pub Apart : List Block → Type 0
Apart [] = Unit {0}
Apart (k ∷ bs) = Behind (last_of k) bs × Apart bs

one-first : (f l : ℕ) → first_of (one_block f l) ≡ f
one-first f l = pick_all (λ (k : Block). first_of k ≡ f) (eqb f l) (λ e. refl) (λ e. refl)

one_last : (f l : ℕ) → last_of (one_block f l) ≡ l
one_last f l = pick_all (λ (k : Block). last_of k ≡ l) (eqb f l) (λ e. eqb-true f l e) (λ e. refl)

from-behind : (m f l : ℕ) (xs : List ℕ) → m + 1 < f → Behind m (blocks_from f l xs)
from-behind m f l [] h = omega (arith, one-first f l)
from-behind m f l (x ∷ xs) h = pick_all (Behind m) (eqb x (l + 1)) (λ e. from-behind m f x xs h) (λ e. omega (arith, one-first f l))

from-apart : (f l : ℕ) (xs : List ℕ) → rising_from l xs ≡ true → Apart (blocks_from f l xs)
from-apart f l [] r = (tt, tt)
from-apart f l (x ∷ xs) r =
    let above : l < x = ltb-true l x (and_l (ltb l x) (rising_from x xs) r) in
    let rest = and_r (ltb l x) (rising_from x xs) r in
    pick_all Apart (eqb x (l + 1)) (λ e. from-apart f x xs rest)
    (λ e. let apart : x ≡ l + 1 → ⊥ = eqb-false x (l + 1) e in
    (from-behind (last_of (one_block f l)) x x xs (omega (arith, one_last f l, gap l x above apart)), from-apart x x xs rest))
  where
    gap : (l x : ℕ) → l < x → (x ≡ l + 1 → ⊥) → l + 1 < x
    gap l x h k = omega arith

pub runs-apart : (l : List ℕ) → rising l ≡ true → Apart (blocks_of l)
runs-apart [] r = tt
runs-apart (x ∷ xs) r = from-apart x x xs r
