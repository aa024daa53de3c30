-- Sorting: rows that go in one after another end up as sorted all at once, and each goes to where the test changes. Assumes nothing.
use Rattle.wire.proofs.Basics.{◌∙◌, sym, ◌≡◌, ap, refl, ℕ, ◌≤◌, ◌<◌, suc, zero, List, [], ◌∷◌, ◌++◌, true, false, Bool, inl, inr, length, drop, get_or, take, arith}
use Rattle.wire.proofs.Choices.{either}
use Rattle.log_index.specs.Rows.{Row, row_of, earlier, put, sorted}
use Rattle.log_index.proofs.Order.{earlier-turned, upto_trans, upto-earlier, earlier-same}
use Rattle.wire.proofs.Halves.{Turns}

abbrev pub All : (Row → Type 0) → List Row → Type 0
All P [] = Unit {0}
All P (x ∷ xs) = P x × All P xs

pub all_map : (P Q : Row → Type 0) → ((x : Row) → P x → Q x) → (l : List Row) → All P l → All Q l
all_map P Q f [] a = tt
all_map P Q f (x ∷ xs) a = (f x a.0, all_map P Q f xs a.1)

abbrev pub none : Row
none = row_of 0 0 0

pub all-at : (P : Row → Type 0) (l : List Row) → All P l → (i : ℕ) → i < length l → P (get_or l i none)
all-at P [] a i h = absurd (let z : ⊥ = omega arith in z)
all-at P (x ∷ xs) a zero h = a.0
all-at P (x ∷ xs) a (suc i) h = all-at P xs a.1 i (omega arith)

-- no row comes before one that stands before it
abbrev pub Ordered : List Row → Type 0
Ordered [] = Unit {0}
Ordered (x ∷ xs) = All (λ y. earlier y x ≡ false) xs × Ordered xs

-- ---- a row goes on, or stops

module _ (r x : Row) (xs : List Row) where
  pub put_on : earlier x r ≡ true → put r (x ∷ xs) ≡ x ∷ put r xs
  unfolding put
  put_on e = rw e

  pub put-here : earlier x r ≡ false → put r (x ∷ xs) ≡ r ∷ x ∷ xs
  unfolding put
  put-here e = rw e

pub put_only : (r : Row) → put r [] ≡ r ∷ []
unfolding put
put_only r = refl

pub put-length : (r : Row) (l : List Row) → length (put r l) ≡ suc (length l)
put-length r [] = ap length (put_only r)
put-length r (x ∷ xs) = elim (either (earlier x r)) [
  | inl e ↦ ap length (put_on r x xs e) ∙ ap suc (put-length r xs)
  | inr e ↦ ap length (put-here r x xs e)
]

pub put-all : (P : Row → Type 0) (r : Row) (l : List Row) → P r → All P l → All P (put r l)
put-all P r [] p a = rw (put_only r) (p, tt)
put-all P r (x ∷ xs) p a = elim (either (earlier x r)) [
  | inl e ↦ rw (put_on r x xs e) (a.0, put-all P r xs p a.1)
  | inr e ↦ rw (put-here r x xs e) (p, a)
]

pub put-ordered : (r : Row) (l : List Row) → Ordered l → Ordered (put r l)
put-ordered r [] o = rw (put_only r) (tt, tt)
put-ordered r (x ∷ xs) o = elim (either (earlier x r)) [
  | inl e ↦ rw (put_on r x xs e) (put-all (λ y. earlier y x ≡ false) r xs (earlier-turned x r e) o.0, put-ordered r xs o.1)
  | inr e ↦ rw (put-here r x xs e) ((e, all_map (λ y. earlier y x ≡ false) (λ y. earlier y r ≡ false) (λ y h. upto_trans y x r h e) xs o.0), o)
]

-- ---- two rows go in in any order

swap-only : (a b : Row) → put a (put b []) ≡ put b (put a [])
swap-only a b = elim (either (earlier b a)) [
  | inl e ↦
      ap (put a) (put_only b) ∙ put_on a b [] e ∙ ap (λ (l : List Row). b ∷ l) (put_only a)
      ∙ sym (ap (put b) (put_only a) ∙ put-here b a [] (earlier-turned b a e))
  | inr e ↦ elim (either (earlier a b)) [
    | inl f ↦
        ap (put a) (put_only b) ∙ put-here a b [] e
        ∙ sym (ap (put b) (put_only a) ∙ put_on b a [] f ∙ ap (λ (l : List Row). a ∷ l) (put_only b))
    | inr f ↦ let s = earlier-same a b f e in (λ j. put (s j) (put (sym s j) []))
  ]
]

-- a goes past x, b does not
swap-apart : (a b x : Row) (xs : List Row) → earlier x a ≡ true → earlier x b ≡ false → put a (put b (x ∷ xs)) ≡ put b (put a (x ∷ xs))
swap-apart a b x xs f g =
    ap (put a) (put-here b x xs g)
    ∙ put_on a b (x ∷ xs) (upto-earlier x b a g f)
    ∙ ap (λ (l : List Row). b ∷ l) (put_on a x xs f)
    ∙ sym (ap (put b) (put_on a x xs f) ∙ put-here b x (put a xs) g)

swap-here : (a b x : Row) (xs : List Row) → earlier x a ≡ false → earlier x b ≡ false → put a (put b (x ∷ xs)) ≡ put b (put a (x ∷ xs))
swap-here a b x xs f g = elim (either (earlier b a)) [
  | inl e ↦
      ap (put a) (put-here b x xs g)
      ∙ put_on a b (x ∷ xs) e
      ∙ ap (λ (l : List Row). b ∷ l) (put-here a x xs f)
      ∙ sym (ap (put b) (put-here a x xs f) ∙ put-here b a (x ∷ xs) (earlier-turned b a e))
  | inr e ↦ elim (either (earlier a b)) [
    | inl h ↦
        ap (put a) (put-here b x xs g)
        ∙ put-here a b (x ∷ xs) e
        ∙ sym (ap (put b) (put-here a x xs f) ∙ put_on b a (x ∷ xs) h ∙ ap (λ (l : List Row). a ∷ l) (put-here b x xs g))
    | inr h ↦ let s = earlier-same a b h e in (λ j. put (s j) (put (sym s j) (x ∷ xs)))
  ]
]

pub put_swap : (a b : Row) (l : List Row) → put a (put b l) ≡ put b (put a l)
put_swap a b [] = swap-only a b
put_swap a b (x ∷ xs) = elim (either (earlier x a)) [
  | inl f ↦ elim (either (earlier x b)) [
    | inl g ↦
        ap (put a) (put_on b x xs g)
        ∙ put_on a x (put b xs) f
        ∙ ap (λ (l : List Row). x ∷ l) (put_swap a b xs)
        ∙ sym (ap (put b) (put_on a x xs f) ∙ put_on b x (put a xs) g)
    | inr g ↦ swap-apart a b x xs f g
  ]
  | inr f ↦ elim (either (earlier x b)) [
    | inl g ↦ sym (swap-apart b a x xs g f)
    | inr g ↦ swap-here a b x xs f g
  ]
]

-- ---- one row after another

abbrev pub put_all : List Row → List Row → List Row
put_all l [] = l
put_all l (r ∷ rs) = put_all (put r l) rs

pub put_first : (r : Row) (l rs : List Row) → put_all (put r l) rs ≡ put r (put_all l rs)
put_first r l [] = refl
put_first r l (x ∷ rs) = ap (λ (m : List Row). put_all m rs) (put_swap x r l) ∙ put_first r (put x l) rs

all-sorted : (rs : List Row) → put_all [] rs ≡ sorted rs
unfolding sorted
all-sorted [] = refl
all-sorted (r ∷ rs) = put_first r [] rs ∙ ap (put r) (all-sorted rs)

-- rows put among sorted ones: sorted all at once
pub added-sorted : (xs ys : List Row) → put_all (sorted xs) ys ≡ sorted (xs ++ ys)
unfolding sorted
added-sorted [] ys = all-sorted ys
added-sorted (x ∷ xs) ys = put_first x (sorted xs) ys ∙ ap (put x) (added-sorted xs ys)

pub sorted-ordered : (rs : List Row) → Ordered (sorted rs)
unfolding sorted
sorted-ordered [] = tt
sorted-ordered (r ∷ rs) = put-ordered r (sorted rs) (sorted-ordered rs)

pub sorted-length : (rs : List Row) → length (sorted rs) ≡ length rs
unfolding sorted
sorted-length [] = refl
sorted-length (r ∷ rs) = put-length r (sorted rs) ∙ ap suc (sorted-length rs)

pub sorted_all : (P : Row → Type 0) (rs : List Row) → All P rs → All P (sorted rs)
unfolding sorted
sorted_all P [] a = tt
sorted_all P (r ∷ rs) a = put-all P r (sorted rs) a.0 (sorted_all P rs a.1)

-- ---- by places

-- among ordered rows the test changes once
pub falls : (k : Row) (l : List Row) → Ordered l → (i j : ℕ) → i ≤ j → j < length l → earlier (get_or l j none) k ≡ true → earlier (get_or l i none) k ≡ true
falls k [] o i j h b t = absurd (let z : ⊥ = omega arith in z)
falls k (x ∷ xs) o zero zero h b t = t
falls k (x ∷ xs) o zero (suc j) h b t = upto-earlier (get_or xs j none) x k (all-at (λ y. earlier y x ≡ false) xs o.0 j (omega arith)) t
falls k (x ∷ xs) o (suc i) zero h b t = absurd (let z : ⊥ = omega arith in z)
falls k (x ∷ xs) o (suc i) (suc j) h b t = falls k xs o.1 i j (omega arith) (omega arith) t

abbrev pub earlier_at : Row → List Row → ℕ → Bool
earlier_at k l i = earlier (get_or l i none) k

pub turns-rest : (k x : Row) (xs : List Row) (i : ℕ) → Turns (earlier_at k (x ∷ xs)) (suc (length xs)) (suc i) → Turns (earlier_at k xs) (length xs) i
turns-rest k x xs i t = record {
  most = omega (arith, t.most);
  left = λ j h. t.left (suc j) (omega arith);
  right = λ h. t.right (omega arith);
}

-- a row goes to where the test changes
pub put-at : (r : Row) (l : List Row) (i : ℕ) → Turns (earlier_at r l) (length l) i → put r l ≡ take i l ++ (r ∷ drop i l)
put-at r [] zero t = put_only r
put-at r [] (suc i) t = absurd (let z : ⊥ = omega (arith, t.most) in z)
put-at r (x ∷ xs) zero t = put-here r x xs (t.right (omega arith))
put-at r (x ∷ xs) (suc i) t =
    put_on r x xs (t.left 0 (omega arith)) ∙ ap (λ (l : List Row). x ∷ l) (put-at r xs i (turns-rest r x xs i t))
