-- Tests on every number of a range, as the iterators' chains tell of them. Assumes nothing.
use Rattle.wire.proofs.Basics.{◌∙◌, sym, ap, ◌≡◌, refl, ℕ, ◌+◌, suc, zero, true, false, Bool, ◌&&◌, List, ◌∷◌, length, inl, inr, ◌≤◌, ◌<◌, ℕ_discrete, arith}
use Rattle.std.proofs.Common.{cond, MatchBool}
use Rattle.std.specs.List.{list_all, list_any, filter, range_with_len}
use Rattle.steps.specs.Search.{all_below, one, count}
use Rattle.steps.proofs.Tables.{all_cong, count_same}
use Rattle.wire.proofs.Choices.{either, or_l, or_r}

and_swap : (a b c : Bool) → (a && (b && c)) ≡ (b && (a && c))
and_swap true b c = refl
and_swap false true c = refl
and_swap false false c = refl

all_front : (n : ℕ) (q : ℕ → Bool) → all_below (suc n) q ≡ (q 0 && all_below n (λ k. q (suc k)))
all_front zero q = refl
all_front (suc n) q = ap (λ (b : Bool). q (suc n) && b) (all_front n q) ∙ and_swap (q (suc n)) (q 0) (all_below n (λ k. q (suc k)))

count_front : (n : ℕ) (q : ℕ → Bool) → count q (suc n) ≡ one (q 0) + count (λ k. q (suc k)) n
count_front zero q = refl
count_front (suc n) q = omega (arith, count_front n q)

all_range_from : (p : ℕ → Bool) (n a : ℕ) → list_all p (range_with_len a n) ≡ all_below n (λ k. p (a + k))
all_range_from p zero a = refl
all_range_from p (suc n) a =
    let e : a + 0 ≡ a = omega arith in
    sym (all_front n (λ k. p (a + k)) ∙ rw e (ap (λ (b : Bool). p a && b) (all_cong n (λ k. p (a + suc k)) (λ k. p (a + 1 + k)) (λ k h. ap p (omega arith)) ∙ sym (all_range_from p n (a + 1)))))

-- a test of all the numbers below n
pub all-range : (p : ℕ → Bool) (n : ℕ) → list_all p (range_with_len 0 n) ≡ all_below n p
all-range p n = all_range_from p n 0 ∙ all_cong n (λ k. p (0 + k)) p (λ k h. ap p (omega arith))

any_yes : (p : ℕ → Bool) (n a : ℕ) → list_any p (range_with_len a n) ≡ true → (k : ℕ) × (a ≤ k) × (k < a + n) × (p k ≡ true)
any_yes p zero a e = absurd (let z : ◌≡◌ {A = ℕ} 0 1 = cc in let y : ⊥ = omega arith in y)
any_yes p (suc n) a e = elim (either (p a)) [
  | inl t ↦ (a, omega arith, omega arith, t)
  | inr f ↦ let h = any_yes p n (a + 1) (rw f at e) in (h.0, omega (arith, h.1), omega (arith, h.2), h.3)
]

any_no : (p : ℕ → Bool) (n a : ℕ) → list_any p (range_with_len a n) ≡ false → (k : ℕ) → a ≤ k → k < a + n → p k ≡ false
any_no p zero a e k l h = absurd (omega arith)
any_no p (suc n) a e k l h =
    let rest = list_any p (range_with_len (a + 1) n) in
    elim (ℕ_discrete k a) [ yes q ↦ rw q (or_l (p a) rest e) | no q ↦ any_no p n (a + 1) (or_r (p a) rest e) k (omega arith) (omega arith) ]

-- a test of some number below n
pub any-range : (p : ℕ → Bool) (n : ℕ) (r : Bool) → r ≡ list_any p (range_with_len 0 n) → MatchBool r ((k : ℕ) × (k < n) × (p k ≡ true)) ((k : ℕ) → k < n → p k ≡ false)
any-range p n true e = let h = any_yes p n 0 (sym e) in (h.0, omega (arith, h.2), h.3)
any-range p n false e = λ k l. any_no p n 0 (sym e) k (omega arith) (omega arith)

one_more : (b : Bool) (a : ℕ) (l : List ℕ) → length (cond b (a ∷ l) l) ≡ one b + length l
one_more true a l = omega arith
one_more false a l = omega arith

count_range_from : (p : ℕ → Bool) (n a : ℕ) → length (filter p (range_with_len a n)) ≡ count (λ k. p (a + k)) n
count_range_from p zero a = refl
count_range_from p (suc n) a =
    let ih : length (filter p (range_with_len (a + 1) n)) ≡ count (λ k. p (a + suc k)) n = count_range_from p n (a + 1) ∙ count_same n (λ k. p (a + 1 + k)) (λ k. p (a + suc k)) (λ k h. ap p (omega arith)) in
    let f : count (λ k. p (a + k)) (suc n) ≡ one (p (a + 0)) + count (λ k. p (a + suc k)) n = count_front n (λ k. p (a + k)) in
    let z : one (p (a + 0)) ≡ one (p a) = ap (λ k. one (p k)) (omega arith) in
    omega (arith, one_more (p a) a (filter p (range_with_len (a + 1) n)))

-- how many of the numbers below n pass
pub count-range : (p : ℕ → Bool) (n : ℕ) → length (filter p (range_with_len 0 n)) ≡ count p n
count-range p n = count_range_from p n 0 ∙ count_same n (λ k. p (0 + k)) p (λ k h. ap p (omega arith))
