-- Sums of numbers that are built, and of a list by how often each number stands there. Assumes nothing.
use Rattle.wire.proofs.Basics.{◌∙◌, sym, ◌≡◌, ap, refl, ℕ, ◌+◌, ◌<◌, suc, zero, ◌*◌, List, [], ◌∷◌, inl, inr, ◌≢◌, length, get_or, eqb, eq-eqb, ne_eqb, one-mul, zero-mul, arith}
use native.Mathlib.Nat.{add-mul}
use Rattle.wire.specs.Sum.{sum}
use Rattle.words.specs.Builds.{build}
use Rattle.steps.specs.Search.{one}
use Rattle.arrival.proofs.Track.{times}
use Rattle.sorted_set.specs.Lists.{In, total}

-- h 0 + .. + h (n - 1)
abbrev pub sum_to : ℕ → (ℕ → ℕ) → ℕ
sum_to n h = sum (build n h)

pub sum_same : (n : ℕ) (h k : ℕ → ℕ) → ((i : ℕ) → i < n → h i ≡ k i) → sum_to n h ≡ sum_to n k
unfolding sum
sum_same zero h k e = refl
sum_same (suc n) h k e = rw (e 0 (omega arith), sum_same n (λ i. h (suc i)) (λ i. k (suc i)) (λ i b. e (suc i) (omega arith)))

pub sum-none : (n : ℕ) (h : ℕ → ℕ) → ((i : ℕ) → i < n → h i ≡ 0) → sum_to n h ≡ 0
unfolding sum
sum-none zero h e = refl
sum-none (suc n) h e = rw (e 0 (omega arith), sum-none n (λ i. h (suc i)) (λ i b. e (suc i) (omega arith)))

-- v more at one number
pub sum_more : (n : ℕ) (h k : ℕ → ℕ) (v x : ℕ) → x < n → k x ≡ v + h x → ((i : ℕ) → i < n → i ≢ x → k i ≡ h i) → sum_to n k ≡ v + sum_to n h
unfolding sum
sum_more zero h k v x b e o = absurd (let z : ⊥ = omega arith in z)
sum_more (suc n) h k v zero b e o =
    let rest : sum_to n (λ i. k (suc i)) ≡ sum_to n (λ i. h (suc i)) = sum_same n (λ i. k (suc i)) (λ i. h (suc i)) (λ i c. o (suc i) (omega arith) (λ q. let z : ⊥ = omega arith in z)) in
    omega arith
sum_more (suc n) h k v (suc x) b e o =
    let here : k 0 ≡ h 0 = o 0 (omega arith) (λ q. let z : ⊥ = omega arith in z) in
    let rest : sum_to n (λ i. k (suc i)) ≡ v + sum_to n (λ i. h (suc i)) =
    sum_more n (λ i. h (suc i)) (λ i. k (suc i)) v x (omega arith) e (λ i c q. o (suc i) (omega arith) (λ r. q (omega arith))) in
    omega arith

pub sum-add : (n : ℕ) (h k : ℕ → ℕ) → sum_to n (λ i. h i + k i) ≡ sum_to n h + sum_to n k
unfolding sum
sum-add zero h k = refl
sum-add (suc n) h k =
    let rest : sum_to n (λ i. h (suc i) + k (suc i)) ≡ sum_to n (λ i. h (suc i)) + sum_to n (λ i. k (suc i)) = sum-add n (λ i. h (suc i)) (λ i. k (suc i)) in
    omega arith

-- over a list, by place
pub total-at : {A : Type 0} (w : A → ℕ) (d : A) (l : List A) → total w l ≡ sum_to (length l) (λ i. w (get_or l i d))
unfolding sum
total-at w d [] = refl
total-at w d (x ∷ l) = ap (λ (n : ℕ). w x + n) (total-at w d l)

-- over a list of numbers below n, by how often each stands there
pub total-times : (w : ℕ → ℕ) (n : ℕ) (l : List ℕ) → ((i : ℕ) → In i l → i < n) → total w l ≡ sum_to n (λ i. times i l * w i)
unfolding times
total-times w n [] b = sym (sum-none n (λ i. 0 * w i) (λ i c. zero-mul (w i)))
total-times w n (x ∷ l) b =
    ap (λ (m : ℕ). w x + m) (total-times w n l (λ i h. b i (inr h)))
    ∙ sym (sum_more n (λ i. times i l * w i) (λ i. (one (eqb x i) + times i l) * w i) (w x) x (b x (inl refl))
    (rw (eq-eqb x x refl) (add-mul 1 (times x l) (w x) ∙ ap (λ (m : ℕ). m + times x l * w x) (one-mul (w x))))
    (λ i c o. rw (ne_eqb x i (λ e. o (sym e))) (ap (λ (m : ℕ). m * w i) (let z : 0 + times i l ≡ times i l = omega arith in z))))

-- each number below n once
pub total-once : (w : ℕ → ℕ) (n : ℕ) (l : List ℕ) → ((i : ℕ) → In i l → i < n) → ((i : ℕ) → i < n → times i l ≡ 1) → total w l ≡ sum_to n w
total-once w n l b o = total-times w n l b ∙ sum_same n (λ i. times i l * w i) w (λ i c. ap (λ (m : ℕ). m * w i) (o i c) ∙ one-mul (w i))
