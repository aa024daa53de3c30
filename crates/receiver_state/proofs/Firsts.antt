-- The first slot that passes a test, in the words and in a list of slots.
use Rattle.wire.proofs.Basics.{◌∙◌, sym, ◌≡◌, ap, refl, ℕ, ◌<◌, suc, zero, true, false, Bool, some, Option, Option·map, arith}
use Rattle.wire.specs.Choice.{pick}
use Rattle.steps.specs.Search.{first}
use Rattle.steps.specs.InsideSearch.{option_of}
use Rattle.words.specs.Builds.{build}
use Rattle.std.proofs.Common.{Option as Maybe, Some, None}
use Rattle.slots.specs.Words.{or_here, first_below}

abbrev or_next : Bool → Maybe ℕ → Maybe ℕ
or_next true x = Some 0
or_next false (Some i) = Some (suc i)
or_next false None = None

or-next : (b : Bool) (x : Maybe ℕ) (t : Bool) (n : ℕ) → or_here (or_next b x) t (suc n) ≡ or_next b (or_here x t n)
or-next true x t n = refl
or-next false (Some i) t n = refl
or-next false None true n = refl
or-next false None false n = refl

first_next : (q : ℕ → Bool) (n : ℕ) → first_below q (suc n) ≡ or_next (q 0) (first_below (λ i. q (suc i)) n)
first_next q zero = go (q 0)
  where
    go : (b : Bool) → or_here None b 0 ≡ or_next b None
    go true = refl
    go false = refl
first_next q (suc n) = ap (λ (x : Maybe ℕ). or_here x (q (suc n)) (suc n)) (first_next q n) ∙ or-next (q 0) (first_below (λ i. q (suc i)) n) (q (suc n)) n

option-next : (b : Bool) (x : Maybe ℕ) → pick b (some 0) (Option·map suc (option_of x)) ≡ option_of (or_next b x)
option-next true x = refl
option-next false (Some i) = refl
option-next false None = refl

pub first-build : {A : Type 0} (p : A → Bool) (n : ℕ) (f : ℕ → A) → first p (build n f) ≡ option_of (first_below (λ i. p (f i)) n)
first-build p zero f = refl
first-build p (suc n) f =
    ap (λ (o : Option ℕ). pick (p (f 0)) (some 0) (Option·map suc o)) (first-build p n (λ i. f (suc i)))
    ∙ option-next (p (f 0)) (first_below (λ i. p (f (suc i))) n)
    ∙ ap option_of (sym (first_next (λ i. p (f i)) n))

pub first-same : (p q : ℕ → Bool) (n : ℕ) → ((i : ℕ) → i < n → p i ≡ q i) → first_below p n ≡ first_below q n
first-same p q zero h = refl
first-same p q (suc n) h = rw (first-same p q n (λ i k. h i (omega arith)), h n (omega arith))

here-within : (f : Maybe ℕ) (b : Bool) (n s : ℕ) → (f ≡ Some s → s < n) → or_here f b n ≡ Some s → s < suc n
here-within (Some i) b n s g e = omega (arith, g e)
here-within None true n s g e = let z : n ≡ s = cc in omega arith
here-within None false n s g e = let z : ◌≡◌ {A = ℕ} 0 1 = cc in omega arith

-- what is found lies below n
pub first-within : (p : ℕ → Bool) (n s : ℕ) → first_below p n ≡ Some s → s < n
first-within p zero s e = let z : ◌≡◌ {A = ℕ} 0 1 = cc in omega arith
first-within p (suc n) s e = here-within (first_below p n) (p n) n s (first-within p n s) e
