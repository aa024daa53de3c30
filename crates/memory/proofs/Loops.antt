-- Laws of the definitions, one turn at a time, as the loops use them.
use Rattle.wire.proofs.Basics.{◌∙◌, sym, ◌≡◌, ap, refl, ℕ, ◌≤◌, ◌+◌, ◌<◌, suc, zero, ◌%◌, min, List, [], ◌∷◌, ◌++◌, true, false, Bool, ◌&&◌, ◌||◌, not, or-true, some, none, length, get_or, take}
use Rattle.wire.proofs.Basics.{length-set, take_all, take-suc, eqb, eq-eqb, ne_eqb, eqb-true, eqb-false, ℕ_discrete, dec_le, add-one, arith}
use Rattle.std.proofs.Common.{Option as Maybe, Some, None, MatchOption, MatchBool}
use Rattle.wire.proofs.Choices.{and-false, or-false}
use Rattle.words.specs.Builds.{build}
use Rattle.words.proofs.Builds.{length-build, get_or-build}
use Rattle.steps.specs.Limits.{senders_most, keys_each}
use Rattle.steps.specs.Search.{first}
use Rattle.steps.specs.InsideSearch.{option_of}
use Rattle.steps.specs.Memory.{Place, vacant, is_of, remembered, has}
use Rattle.memory.specs.Words.{sender_at, used_at, sequences_at, sequences_in, place_in, memory_in}
use Rattle.memory.specs.InsideParts.{shifted_in}

-- ---- the first place that passes

module _ {A : Type 0} (p : A → Bool) where
  pub first-here : (n : ℕ) (f : ℕ → A) (i : ℕ) → i < n → ((j : ℕ) → j < i → p (f j) ≡ false) → p (f i) ≡ true → first p (build n f) ≡ some i
  first-here zero f i h a e = absurd (omega arith)
  first-here (suc n) f zero h a e = rw e
  first-here (suc n) f (suc i) h a e = rw (a 0 (omega arith), first-here n (λ j. f (suc j)) i (omega arith) (λ j b. a (suc j) (omega arith)) e)

  pub first-nowhere : (n : ℕ) (f : ℕ → A) → ((j : ℕ) → j < n → p (f j) ≡ false) → first p (build n f) ≡ none
  first-nowhere zero f a = refl
  first-nowhere (suc n) f a = rw (a 0 (omega arith), first-nowhere n (λ j. f (suc j)) (λ j b. a (suc j) (omega arith)))

-- what a search of the places finds is the first that passes
pub found : (p : Place → Bool) (w : List ℕ) (r : Maybe ℕ)
    → MatchOption r ((k : ℕ) → 0 ≤ k → k < senders_most → p (place_in w k) ≡ false)
    (λ i. (0 ≤ i) × (i < senders_most) × (p (place_in w i) ≡ true) × ((k : ℕ) → 0 ≤ k → k < i → p (place_in w k) ≡ false))
    → option_of r ≡ first p (memory_in w)
unfolding memory_in
found p w None h = sym (first-nowhere p senders_most (place_in w) (λ j l. h j (omega arith) l))
found p w (Some i) h = sym (first-here p senders_most (place_in w) i h.1 (λ j l. h.3 j (omega arith) l) h.2)

pub of_other : (w : List ℕ) (i s : ℕ) → (get_or w (sender_at i) 0 ≡ s → ⊥) → is_of s (place_in w i) ≡ false
of_other w i s d = rw (ne_eqb _ _ d) (and-false (not (vacant (place_in w i))))

pub of-by : (w : List ℕ) (i s : ℕ) → get_or w (sender_at i) 0 ≡ s → is_of s (place_in w i) ≡ not (eqb (get_or w (used_at i) 0) 0)
of-by w i s e = rw (eq-eqb _ _ e) (go (not (eqb (get_or w (used_at i) 0) 0)))
  where
    go : (b : Bool) → (b && true) ≡ b
    go true = refl
    go false = refl

-- ---- a sequence is looked for among the first of a list

has_snoc : (l : List ℕ) (x q : ℕ) → has (l ++ (x ∷ [])) q ≡ (has l q || eqb x q)
has_snoc [] x q = or-false (eqb x q)
has_snoc (y ∷ l) x q = rw (has_snoc l x q) (go (eqb y q) (has l q) (eqb x q))
  where
    go : (b c d : Bool) → (b || (c || d)) ≡ ((b || c) || d)
    go true c d = refl
    go false c d = refl

module _ (l : List ℕ) (q : ℕ) where
  has_more : (j : ℕ) → j < length l → has (take j l) q ≡ false → eqb (get_or l j 0) q ≡ false → has (take (j + 1) l) q ≡ false
  has_more j h a e = rw add-one (rw (take-suc l j 0 h, has_snoc (take j l) (get_or l j 0) q, a, e))

  pub has_hit : (j n : ℕ) → j < n → n ≤ length l → eqb (get_or l j 0) q ≡ true → has (take n l) q ≡ true
  has_hit j zero h b e = absurd (omega arith)
  has_hit j (suc n) h b e = elim (ℕ_discrete j n) [
    | yes z ↦ rw (take-suc l n 0 (omega arith), has_snoc (take n l) (get_or l n 0) q, sym (ap (λ (i : ℕ). eqb (get_or l i 0) q) z) ∙ e) (or-true (has (take n l) q))
    | no z ↦ rw (take-suc l n 0 (omega arith), has_snoc (take n l) (get_or l n 0) q, has_hit j n (omega arith) (omega arith) e)
  ]

  -- more count than there are
  pub take_min : (n m : ℕ) → length l ≡ m → take n l ≡ take (min n m) l
  take_min n m e = elim (dec_le n m) [
    | yes h ↦ let z : min n m ≡ n = omega arith in rw z
    | no h ↦ take_all n l (omega arith) ∙ sym (take_all (min n m) l (omega arith))
  ]

module _ (w : List ℕ) (i q n : ℕ) (e : n ≡ min (get_or w (used_at i) 0) keys_each) where
  kept-are : take (get_or w (used_at i) 0) (sequences_in w i) ≡ take n (sequences_in w i)
  kept-are = take_min (sequences_in w i) q (get_or w (used_at i) 0) keys_each (length-build keys_each (λ j. get_or w (sequences_at i + j) 0)) ∙ ap (λ (k : ℕ). take k (sequences_in w i)) (sym e)

  key_hit : (j : ℕ) → j < n → get_or w (sequences_at i + j) 0 ≡ q → has (remembered (place_in w i)) q ≡ true
  key_hit j h f = rw kept-are (has_hit (sequences_in w i) q j n h (omega (arith, length-build keys_each (λ j. get_or w (sequences_at i + j) 0)))
      (ap (λ (x : ℕ). eqb x q) (get_or-build keys_each (λ j. get_or w (sequences_at i + j) 0) j 0 (omega arith)) ∙ eq-eqb _ _ f))

  key_more : (j : ℕ) → j < n → has (take j (sequences_in w i)) q ≡ false → (get_or w (sequences_at i + j) 0 ≡ q → ⊥) → has (take (j + 1) (sequences_in w i)) q ≡ false
  key_more j h a f = has_more (sequences_in w i) q j (omega (arith, length-build keys_each (λ j. get_or w (sequences_at i + j) 0))) a
      (ap (λ (x : ℕ). eqb x q) (get_or-build keys_each (λ j. get_or w (sequences_at i + j) 0) j 0 (omega arith)) ∙ ne_eqb _ _ f)

  key_missed : has (take n (sequences_in w i)) q ≡ false → has (remembered (place_in w i)) q ≡ false
  key_missed a = rw kept-are a

  none_of : (j : ℕ) → j ≤ n → ((k : ℕ) → k < j → get_or w (sequences_at i + k) 0 ≡ q → ⊥) → has (take j (sequences_in w i)) q ≡ false
  none_of zero h d = refl
  none_of (suc j) h d =
      ap (λ (k : ℕ). has (take k (sequences_in w i)) q) (sym (add-one j))
      ∙ key_more j h (none_of j (omega arith) (λ k l. d k (omega arith))) (d j (omega arith))

  -- a search among those that count
  pub key-asked : (r : Bool) → MatchBool r ((k : ℕ) × (k < n) × (eqb (get_or w (sequences_at i + k) 0) q ≡ true)) ((k : ℕ) → k < n → eqb (get_or w (sequences_at i + k) 0) q ≡ false)
      → r ≡ has (remembered (place_in w i)) q
  key-asked true h = sym (key_hit h.0 h.1 (eqb-true _ q h.2))
  key-asked false h = sym (key_missed (none_of n (omega arith) (λ k l. eqb-false _ q (h k l))))

-- a turn of a loop over low halves: while none was seen, no number was the one
pub seen_more : (f : ℕ → ℕ) (j q x y : ℕ) (seen : Bool) → x ≡ f j % 4294967296 → y ≡ q % 4294967296 → (seen ≡ false → (k : ℕ) → k < j → f k ≡ q → ⊥)
    → (seen || eqb x y) ≡ false → (k : ℕ) → k < j + 1 → f k ≡ q → ⊥
seen_more f j q x y true ex ey d e k h g = absurd (let z : ◌≡◌ {A = ℕ} 0 1 = cc in omega arith)
seen_more f j q x y false ex ey d e k h g = elim (dec_le (suc k) j) [
  | yes l ↦ d refl k l g
  | no l ↦ let z : k ≡ j = omega arith in eqb-false x y e (ex ∙ ap (λ (n : ℕ). n % 4294967296) (sym (ap f z) ∙ g) ∙ sym ey)
]

-- none of the 32 is the one
pub key-nowhere : (w : List ℕ) (i q : ℕ) → ((j : ℕ) → j < keys_each → get_or w (sequences_at i + j) 0 ≡ q → ⊥) → has (remembered (place_in w i)) q ≡ false
key-nowhere w i q d =
    let n : ℕ = min (get_or w (used_at i) 0) keys_each in
    key_missed w i q n refl (none_of w i q n refl n (omega arith) (λ k h. d k (omega arith)))

-- ---- numbers that take the next one's place

pub shifted-length : (m : List ℕ) (a i : ℕ) → length (shifted_in m a i) ≡ length m
unfolding shifted_in
shifted-length m a zero = refl
shifted-length m a (suc i) = length-set (shifted_in m a i) (a + i) _ ∙ shifted-length m a i
