-- Laws of tests over numbers below a bound, and of the first element that passes one. Nothing here knows of datagrams.
use Rattle.wire.proofs.Basics.{sym, ◌≡◌, refl, ℕ, ◌≤◌, ◌<◌, suc, zero, zero-le, suc-le-suc, List, [], ◌∷◌, true, false, Bool, ◌&&◌, ◌||◌, not, inl, inr, ◌≢◌, ◌⊎◌, some, none, Option, Option·map}
use Rattle.wire.proofs.Basics.{length, get_or, not-suc-le-zero, le_refl, le_of_suc-le-suc, ℕ_discrete, arith}
use mathlib.Core.Option.{none-ne-some, some-ne-none}
use Rattle.wire.proofs.Choices.{either, never, and_l, and_r}
use Rattle.steps.specs.Search.{all_below, one, count, first}

-- ---- truth values

pub or-not : (a b : Bool) → a ≡ false → (a || b) ≡ b
or-not a b e = rw e

pub or_yes : (a b : Bool) → a ≡ true → (a || b) ≡ true
or_yes a b e = rw e

pub or-none : (a b : Bool) → a ≡ false → b ≡ false → (a || b) ≡ false
or-none a b p q = rw (p, q)

pub not-true : (b : Bool) → not b ≡ true → b ≡ false
not-true true q = sym q
not-true false q = refl

pub not-false : (b : Bool) → not b ≡ false → b ≡ true
not-false true q = refl
not-false false q = sym q

pub and_no : (a : Bool) {b : Bool} → b ≡ false → (a && b) ≡ false
and_no true q = q
and_no false q = refl

pub and_none : (a b : Bool) → (a && b) ≡ false → (a ≡ false) ⊎ (b ≡ false)
and_none true b q = inr q
and_none false b q = inl refl

-- ---- a test on every number below n, and how many numbers below n pass one

pub all-at : (n : ℕ) (p : ℕ → Bool) → all_below n p ≡ true → (i : ℕ) → i < n → p i ≡ true
all-at zero p e i h = absurd (not-suc-le-zero h)
all-at (suc n) p e i h = elim (ℕ_discrete i n) [ yes q ↦ rw q (and_l (p n) (all_below n p) e) | no q ↦ all-at n p (and_r (p n) (all_below n p) e) i (omega arith) ]

pub all_of : (n : ℕ) (p : ℕ → Bool) → ((i : ℕ) → i < n → p i ≡ true) → all_below n p ≡ true
all_of zero p h = refl
all_of (suc n) p h = rw (h n (le_refl (suc n))) (all_of n p (λ i k. h i (omega arith)))

pub all-not : (n : ℕ) (p : ℕ → Bool) (i : ℕ) → i < n → p i ≡ false → all_below n p ≡ false
all-not n p i h e = elim (either (all_below n p)) [ inl t ↦ never (all-at n p t i h) e | inr f ↦ f ]

pub all_none : (n : ℕ) (p : ℕ → Bool) → all_below n p ≡ false → (i : ℕ) × (i < n) × (p i ≡ false)
all_none zero p e = never refl e
all_none (suc n) p e = elim (and_none (p n) (all_below n p) e) [
  | inl q ↦ (n, le_refl (suc n), q)
  | inr q ↦ let r = all_none n p q in (r.0, omega (arith, r.1), r.2)
]

pub all_cong : (n : ℕ) (p q : ℕ → Bool) → ((i : ℕ) → i < n → p i ≡ q i) → all_below n p ≡ all_below n q
all_cong zero p q h = refl
all_cong (suc n) p q h = rw (h n (le_refl (suc n)), all_cong n p q (λ i k. h i (omega arith)))

pub count_same : (n : ℕ) (p q : ℕ → Bool) → ((i : ℕ) → i < n → p i ≡ q i) → count p n ≡ count q n
count_same zero p q h = refl
count_same (suc n) p q h = rw (h n (le_refl (suc n)), count_same n p q (λ i k. h i (omega arith)))

-- one number more
pub count_flip : (n : ℕ) (p q : ℕ → Bool) (i : ℕ) → i < n → p i ≡ false → q i ≡ true
    → ((j : ℕ) → j < n → j ≢ i → p j ≡ q j) → count q n ≡ suc (count p n)
count_flip zero p q i h a b r = absurd (not-suc-le-zero h)
count_flip (suc n) p q i h a b r = elim (ℕ_discrete i n) [
  | yes e ↦
      let a' : p n ≡ false = rw e at a in
      let b' : q n ≡ true = rw e at b in
      let same : count p n ≡ count q n = count_same n p q (λ j k. r j (omega arith) (omega arith)) in
      rw (a', b', same) (omega arith)
  | no e ↦
      let rest : count q n ≡ suc (count p n) = count_flip n p q i (omega arith) a b (λ j k. r j (omega arith)) in
      let here : p n ≡ q n = r n (omega arith) (λ z. e (sym z)) in
      rw (rest, here) (omega arith)
]

-- all pass
pub count-all : (n : ℕ) (p : ℕ → Bool) → ((i : ℕ) → i < n → p i ≡ true) → count p n ≡ n
count-all zero p h = refl
count-all (suc n) p h = rw (h n (le_refl (suc n)), count-all n p (λ i k. h i (omega arith))) (omega arith)

-- none passes
pub count_none : (n : ℕ) (p : ℕ → Bool) → ((i : ℕ) → i < n → p i ≡ false) → count p n ≡ 0
count_none zero p h = refl
count_none (suc n) p h = rw (h n (le_refl (suc n)), count_none n p (λ i k. h i (omega arith))) (omega arith)

-- fewer pass
pub count_mono : (n : ℕ) (p q : ℕ → Bool) → ((i : ℕ) → i < n → p i ≡ true → q i ≡ true) → count p n ≤ count q n
count_mono zero p q h = zero-le
count_mono (suc n) p q h =
    let r : count p n ≤ count q n = count_mono n p q (λ i k. h i (omega arith)) in
    let o : one (p n) ≤ one (q n) = one_mono (p n) (q n) (h n (le_refl (suc n))) in
    omega arith
  where
    one_mono : (a b : Bool) → (a ≡ true → b ≡ true) → one a ≤ one b
    one_mono true b f = rw (f refl) (le_refl 1)
    one_mono false b f = zero-le

-- at most one passes
pub count-one : (n : ℕ) (p : ℕ → Bool) (i : ℕ) → ((j : ℕ) → j < n → j ≢ i → p j ≡ false) → count p n ≤ 1
count-one zero p i h = zero-le
count-one (suc n) p i h = elim (ℕ_discrete n i) [
  | yes e ↦
      let z : count p n ≡ 0 = count_none n p (λ j k. h j (omega arith) (omega arith)) in
      let o : one (p n) ≤ 1 = one-le (p n) in
      omega arith
  | no e ↦
      let z : p n ≡ false = h n (omega arith) e in
      let r : count p n ≤ 1 = count-one n p i (λ j k. h j (omega arith)) in
      rw z (omega arith)
]
  where
    one-le : (b : Bool) → one b ≤ 1
    one-le true = le_refl 1
    one-le false = zero-le

-- ---- the first element of a list that passes a test

pub clash-none {ℓ κ} : {X : Type κ} {A : Type ℓ} {a : A} → ◌≡◌ {A = Option A} none (some a) → X
clash-none {X = X} {a = a} e = absurd (none-ne-some a e)

pub clash-some {ℓ κ} : {X : Type κ} {A : Type ℓ} {a : A} → ◌≡◌ {A = Option A} (some a) none → X
clash-some {X = X} {a = a} e = absurd (some-ne-none a e)

map-none : (o : Option ℕ) → Option·map suc o ≡ none → o ≡ none
map-none none e = refl
map-none (some a) e = clash-some e

pub record First {ℓ} {A : Type ℓ} (p : A → Bool) (l : List A) (i : ℕ) (d : A) : Type 0 where
  pub inside : i < length l
  pub passes : p (get_or l i d) ≡ true

module _ {ℓ} {A : Type ℓ} (p : A → Bool) (d : A) where
  pub first_some : (l : List A) (i : ℕ) → first p l ≡ some i → First p l i d
  first_some [] i e = clash-none e
  first_some (x ∷ xs) i e = go (λ j f. first_some xs j f) (p x) refl (first p xs) refl
    where
      go : ((j : ℕ) → first p xs ≡ some j → First p xs j d) → (b : Bool) → p x ≡ b → (o : Option ℕ) → first p xs ≡ o → First p (x ∷ xs) i d
      go ih true t o f =
          let z : some 0 ≡ some i = rw t at e in
          let k : 0 ≡ i = cc in
          record { inside = rw (← k) (suc-le-suc zero-le); passes = rw (← k) t }
      go ih false t none f = clash-none (let z : none ≡ some i = rw (t, f) at e in z)
      go ih false t (some j) f =
          let z : some (suc j) ≡ some i = rw (t, f) at e in
          let k : suc j ≡ i = cc in
          let r : First p xs j d = ih j f in
          record { inside = rw (← k) (suc-le-suc r.inside); passes = rw (← k) r.passes }

  pub first-none : (l : List A) → first p l ≡ none → (i : ℕ) → i < length l → p (get_or l i d) ≡ false
  first-none [] e i h = absurd (not-suc-le-zero h)
  first-none (x ∷ xs) e zero h = elim (either (p x)) [ inl t ↦ clash-some (rw t at e) | inr t ↦ t ]
  first-none (x ∷ xs) e (suc i) h = elim (either (p x)) [
    | inl t ↦ clash-some (rw t at e)
    | inr t ↦ first-none xs (map-none (first p xs) (rw t at e)) i (le_of_suc-le-suc h)
  ]
