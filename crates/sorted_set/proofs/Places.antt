-- Places in a rising list: `below x` is the place where x stands, or where it would, and a search by halving may tell it from one number at a time.
-- Assumes nothing.
use Rattle.wire.proofs.Basics.{◌∙◌, sym, ◌≡◌, ap, refl, subst, ℕ, ◌≤◌, ◌<◌, suc, zero, List, [], ◌∷◌, ◌++◌, inl, inr, length, drop, get_or, take, ltb, le-ltb, lt-ltb, ltb-false, ltb-true, arith}
use Rattle.wire.proofs.Choices.{either}
use Rattle.sorted_set.specs.Lists.{In, enter, Rising, below}
use Rattle.sorted_set.proofs.Members.{in-at}
use Rattle.sorted_set.proofs.Rises.{enter-all}

module _ (x : ℕ) where
  below-passed : (y : ℕ) (l : List ℕ) → y < x → below x (y ∷ l) ≡ suc (below x l)
  unfolding below
  below-passed y l h = rw (lt-ltb y x h) (omega arith)

  below-reached : (y : ℕ) (l : List ℕ) → x ≤ y → below x (y ∷ l) ≡ below x l
  unfolding below
  below-reached y l h = rw (le-ltb y x h) (omega arith)

  -- where all are at least x
  pub below_none : (l : List ℕ) → ((z : ℕ) → In z l → x ≤ z) → below x l ≡ 0
  unfolding below
  below_none [] h = refl
  below_none (y ∷ l) h = below-reached y l (h y (inl refl)) ∙ below_none l (λ z k. h z (inr k))

  -- where all are less
  pub below_all : (l : List ℕ) → ((z : ℕ) → In z l → z < x) → below x l ≡ length l
  unfolding below
  below_all [] h = refl
  below_all (y ∷ l) h = below-passed y l (h y (inl refl)) ∙ ap suc (below_all l (λ z k. h z (inr k)))

  pub below-most : (l : List ℕ) → below x l ≤ length l
  unfolding below
  below-most [] = omega arith
  below-most (y ∷ l) =
      let r : below x l ≤ length l = below-most l in
      elim (either (ltb y x)) [
        | inl e ↦ rw e (omega arith)
        | inr e ↦ rw e (omega arith)
      ]

  -- the first of a rising list, and x at or below it
  rising_none : (y : ℕ) (l : List ℕ) → Rising (y ∷ l) → x ≤ y → below x (y ∷ l) ≡ 0
  rising_none y l r h = below_none (y ∷ l) (λ z k. elim k [ inl e ↦ omega arith | inr j ↦ let q : y < z = r.0 z j in omega arith ])

  -- ---- the number at a place tells on which side of it x stands

  pub before : (l : List ℕ) → Rising l → (i : ℕ) → i < length l → get_or l i 0 < x → i < below x l
  before [] r i b h = absurd (let z : ⊥ = omega arith in z)
  before (y ∷ l) r zero b h = rw (below-passed y l h) (omega arith)
  before (y ∷ l) r (suc i) b h =
      let k : y < get_or l i 0 = r.0 (get_or l i 0) (in-at l i 0 (omega arith)) in
      let n : i < below x l = before l r.1 i (omega arith) h in
      rw (below-passed y l (omega arith)) (omega arith)

  pub behind : (l : List ℕ) → Rising l → (i : ℕ) → i < length l → x ≤ get_or l i 0 → below x l ≤ i
  behind [] r i b h = absurd (let z : ⊥ = omega arith in z)
  behind (y ∷ l) r zero b h = rw (rising_none y l r h) (omega arith)
  behind (y ∷ l) r (suc i) b h =
      let n : below x l ≤ i = behind l r.1 i (omega arith) h in
      elim (either (ltb y x)) [
        | inl e ↦ rw (below-passed y l (ltb-true y x e)) (omega arith)
        | inr e ↦ rw (below-reached y l (ltb-false y x e)) (omega arith)
      ]

  -- ---- x stands at its place, or nowhere

  pub stands : (l : List ℕ) → Rising l → In x l → (below x l < length l) × (get_or l (below x l) 0 ≡ x)
  stands [] r h = absurd h
  stands (y ∷ l) r (inl e) = rw (rising_none y l r (omega arith)) (omega arith, sym e)
  stands (y ∷ l) r (inr k) =
      let p : (below x l < length l) × (get_or l (below x l) 0 ≡ x) = stands l r.1 k in
      let a : below x l < length l = p.0 in
      rw (below-passed y l (r.0 x k)) (omega arith, p.1)

  pub stands_in : (l : List ℕ) → below x l < length l → get_or l (below x l) 0 ≡ x → In x l
  stands_in l b e = subst (λ (z : ℕ). In z l) e (in-at l (below x l) 0 b)

  -- a new number goes to its place
  pub enter-at : (l : List ℕ) → Rising l → (In x l → ⊥) → enter x l ≡ take (below x l) l ++ x ∷ drop (below x l) l
  unfolding enter below
  enter-at [] r n = refl
  enter-at (y ∷ l) r n = enter-all (λ (m : List ℕ). m ≡ take (below x (y ∷ l)) (y ∷ l) ++ x ∷ drop (below x (y ∷ l)) (y ∷ l)) x y l
      (λ p. rw (rising_none y l r (omega arith)))
      (λ p. absurd (n (inl p)))
      (λ p. rw (below-passed y l p) (ap (λ (m : List ℕ). y ∷ m) (enter-at l r.1 (λ h. n (inr h)))))
