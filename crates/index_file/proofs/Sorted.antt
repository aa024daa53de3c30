-- Rows in order are sorted rows, and sorted rows are in order. Assumes nothing.
use Rattle.wire.proofs.Basics.{◌∙◌, sym, ◌≡◌, ap, refl, subst, ℕ, ◌≤◌, ◌+◌, ◌<◌, suc, zero, List, [], ◌∷◌, true, false, not, inl, inr, length, get_or, not-true, dec_le, add-one, arith}
use Rattle.wire.proofs.Choices.{either, never, and_l, and_r, and-of}
use Rattle.log_index.specs.Rows.{Row, earlier, put, sorted}
use Rattle.log_index.proofs.Order.{upto_trans}
use Rattle.log_index.proofs.Sorts.{none, All, all-at, Ordered, put_only, put-here, sorted-ordered}
use Rattle.index_file.specs.File.{first_rows, in_place, in_order_lem}
use Rattle.index_file.proofs.Places.{first-length, first-at}

module _ (row : ℕ → Row) where
  -- so many rows are in order, so are fewer
  pub order-fewer : (n i : ℕ) → i ≤ n → in_order_lem row n ≡ true → in_order_lem row i ≡ true
  unfolding in_order_lem
  order-fewer zero i h e = let z : i ≡ 0 = omega arith in ap (in_order_lem row) z
  order-fewer (suc n) i h e = elim (dec_le i n) [
    | yes l ↦ order-fewer n i l (and_l (in_order_lem row n) (in_place row n) e)
    | no l ↦ let z : i ≡ suc n = omega (arith, l) in ap (in_order_lem row) z ∙ e
  ]

  pub order-none : in_order_lem row 1 ≡ true
  unfolding in_order_lem
  order-none = refl

  -- one row more, from the second on
  pub order-next : (i j : ℕ) → i ≡ suc j → in_order_lem row i ≡ true → earlier (row i) (row j) ≡ false → in_order_lem row (i + 1) ≡ true
  unfolding in_order_lem
  order-next i j h e f =
      let p : in_place row i ≡ true = ap (in_place row) h ∙ ap not (ap (λ (k : ℕ). earlier (row k) (row j)) (sym h) ∙ f) in
      rw add-one (and-of (in_order_lem row i) (in_place row i) e p)

  pub order-broken : (n i j : ℕ) → i ≡ suc j → i < n → earlier (row i) (row j) ≡ true → in_order_lem row n ≡ false
  unfolding in_order_lem
  order-broken n i j h l f = elim (either (in_order_lem row n)) [
    | inr e ↦ e
    | inl e ↦
        let t = order-fewer n (suc i) (omega arith) e in
        let p : not (earlier (row (suc j)) (row j)) ≡ true = ap (in_place row) (sym h) ∙ and_r (in_order_lem row i) (in_place row i) t in
        never (ap (λ (k : ℕ). earlier (row k) (row j)) (sym h) ∙ f) (not-true (earlier (row (suc j)) (row j)) p)
  ]

  -- a row comes before none of those in front of it
  order-far : (n i j : ℕ) → in_order_lem row n ≡ true → i < n → j < i → earlier (row i) (row j) ≡ false
  unfolding in_order_lem
  order-far n zero j e h l = absurd (let z : ⊥ = omega arith in z)
  order-far n (suc i) j e h l =
      let t = order-fewer n (suc (suc i)) (omega arith) e in
      let p : earlier (row (suc i)) (row i) ≡ false = not-true (earlier (row (suc i)) (row i)) (and_r (in_order_lem row (suc i)) (in_place row (suc i)) t) in
      elim (dec_le (suc j) i) [
        | yes k ↦ upto_trans (row (suc i)) (row i) (row j) p (order-far n i j e (omega arith) k)
        | no k ↦ let z : j ≡ i = omega (arith, k, l) in rw z p
      ]

-- ---- lists

-- by places
by-places : (l : List Row) → ((i j : ℕ) → i < length l → j < i → earlier (get_or l i none) (get_or l j none) ≡ false) → Ordered l
by-places [] h = tt
by-places (x ∷ xs) h = (rest xs (λ i b. h (suc i) 0 (omega arith) (omega arith)), by-places xs (λ i j b k. h (suc i) (suc j) (omega arith) (omega arith)))
  where
    rest : (ys : List Row) → ((i : ℕ) → i < length ys → earlier (get_or ys i none) x ≡ false) → All (λ y. earlier y x ≡ false) ys
    rest [] g = tt
    rest (y ∷ ys) g = (g 0 (omega arith), rest ys (λ i b. g (suc i) (omega arith)))

places-by : (l : List Row) → Ordered l → (i j : ℕ) → i < length l → j < i → earlier (get_or l i none) (get_or l j none) ≡ false
places-by [] o i j h k = absurd (let z : ⊥ = omega arith in z)
places-by (x ∷ xs) o zero j h k = absurd (let z : ⊥ = omega arith in z)
places-by (x ∷ xs) o (suc i) zero h k = all-at (λ y. earlier y x ≡ false) xs o.0 i (omega arith)
places-by (x ∷ xs) o (suc i) (suc j) h k = places-by xs o.1 i j (omega arith) (omega arith)

-- ordered rows stay where they are
pub sorted-stays : (l : List Row) → Ordered l → sorted l ≡ l
unfolding sorted
sorted-stays [] o = refl
sorted-stays (x ∷ xs) o = ap (put x) (sorted-stays xs o.1) ∙ front x xs o.0
  where
    front : (x : Row) (xs : List Row) → All (λ y. earlier y x ≡ false) xs → put x xs ≡ x ∷ xs
    front x [] a = put_only x
    front x (y ∷ ys) a = put-here x y ys a.0

module _ (n : ℕ) (row : ℕ → Row) where
  pub order-ordered : in_order_lem row n ≡ true → Ordered (first_rows n row)
  order-ordered e =
      let l = first-length n row in
      by-places (first_rows n row)
      (λ i j h k.
      let b : i < n = omega (arith, l, h) in
      (λ t. earlier (first-at n row i b t) (first-at n row j (omega arith) t)) ∙ order-far row n i j e b k)

  -- the first n rows are in order: sorting leaves them
  pub order-sorted : in_order_lem row n ≡ true → sorted (first_rows n row) ≡ first_rows n row
  order-sorted e = sorted-stays (first_rows n row) (order-ordered e)

  -- sorting leaves them: they are in order
  pub sorted-order : sorted (first_rows n row) ≡ first_rows n row → in_order_lem row n ≡ true
  unfolding in_order_lem
  sorted-order e = go n (omega arith)
    where
      o : Ordered (first_rows n row)
      o = subst Ordered e (sorted-ordered (first_rows n row))

      step : (k : ℕ) → k < n → in_place row k ≡ true
      step zero h = refl
      step (suc k) h =
          let l = first-length n row in
          let p = places-by (first_rows n row) o (suc k) k (omega (arith, l, h)) (omega arith) in
          ap not ((λ t. earlier (sym (first-at n row (suc k) h) t) (sym (first-at n row k (omega arith)) t)) ∙ p)

      go : (k : ℕ) → k ≤ n → in_order_lem row k ≡ true
      go zero h = refl
      go (suc k) h = and-of (in_order_lem row k) (in_place row k) (go k (omega arith)) (step k h)
