-- Rising lists made of others: one behind the other, number by number, and the part of one between two bounds. Assumes nothing.
use Rattle.wire.proofs.Basics.{◌≡◌, refl, ℕ, ◌≤◌, ◌+◌, ◌<◌, List, [], ◌∷◌, ◌++◌, map, true, false, Bool, ◌&&◌, inl, inr, length, ltb, leb, lt-ltb, ltb-false, le-leb, ltb-true, lt-leb, leb-true, arith}
use Rattle.wire.specs.Choice.{pick}
use Rattle.wire.proofs.Choices.{either, and_l, and_r}
use Rattle.sorted_set.specs.Lists.{In, gather, Rising, below}
use Rattle.sorted_set.proofs.Members.{in_either, gather_in, gather-from, Source, map-from, Origin}

append-rises : (l m : List ℕ) → Rising l → Rising m → ((a b : ℕ) → In a l → In b m → a < b) → Rising (l ++ m)
append-rises [] m r s c = s
append-rises (x ∷ l) m r s c =
    (λ z h. elim (in_either z l m h) [ inl k ↦ r.0 z k | inr k ↦ c x z (inl refl) k ], append-rises l m r.1 s (λ a b i j. c a b (inr i) j))

-- h takes each number to a rising list, and a higher number to higher ones
pub gather-rises : (h : ℕ → List ℕ) → ((x : ℕ) → Rising (h x)) → ((x y a b : ℕ) → x < y → In a (h x) → In b (h y) → a < b) → (l : List ℕ) → Rising l → Rising (gather h l)
gather-rises h e c [] r = tt
gather-rises h e c (x ∷ l) r =
    append-rises (h x) (gather h l) (e x) (gather-rises h e c l r.1)
    (λ a b i j. let s : Source h l b = gather-from h l b j in c x s.x a b (r.0 s.x s.inside) i s.gives)

pub map-rises : (h : ℕ → ℕ) → ((x y : ℕ) → x < y → h x < h y) → (l : List ℕ) → Rising l → Rising (map h l)
map-rises h c [] r = tt
map-rises h c (x ∷ l) r =
    (λ z k. let o : Origin h l z = map-from h l z k in let q : h x < h o.x = c x o.x (r.0 o.x o.inside) in omega (arith, o.gives), map-rises h c l r.1)

-- ---- the part from lo up to hi

module _ (lo hi : ℕ) where
  abbrev inside : ℕ → Bool
  inside x = leb lo x && ltb x hi

  abbrev pub between : List ℕ → List ℕ
  between l = gather (λ x. pick (inside x) (x ∷ []) []) l

  kept-is : (x z : ℕ) → In z (pick (inside x) (x ∷ []) []) → (z ≡ x) × (lo ≤ x) × (x < hi)
  kept-is x z h = go (inside x) refl h
    where
      go : (b : Bool) → inside x ≡ b → In z (pick b (x ∷ []) []) → (z ≡ x) × (lo ≤ x) × (x < hi)
      go true e (inl q) = (q, leb-true lo x (and_l (leb lo x) (ltb x hi) e), ltb-true x hi (and_r (leb lo x) (ltb x hi) e))
      go true e (inr k) = absurd k
      go false e k = absurd k

  pub between-rises : (l : List ℕ) → Rising l → Rising (between l)
  between-rises = gather-rises (λ x. pick (inside x) (x ∷ []) []) (λ x. one (inside x) x)
      (λ x y a b p i j. let u : a ≡ x = (kept-is x a i).0 in let v : b ≡ y = (kept-is y b j).0 in omega arith)
    where
      one : (b : Bool) (x : ℕ) → Rising (pick b (x ∷ []) [])
      one true x = (λ z h. absurd h, tt)
      one false x = tt

  pub between-from : (l : List ℕ) (z : ℕ) → In z (between l) → In z l × (lo ≤ z) × (z < hi)
  between-from l z h =
      let s : Source (λ x. pick (inside x) (x ∷ []) []) l z = gather-from (λ x. pick (inside x) (x ∷ []) []) l z h in
      let k : (z ≡ s.x) × (lo ≤ s.x) × (s.x < hi) = kept-is s.x z s.gives in
      rw k.0 (s.inside, k.1, k.2)

  pub between_in : (l : List ℕ) (z : ℕ) → In z l → lo ≤ z → z < hi → In z (between l)
  between_in l z i a b = gather_in (λ x. pick (inside x) (x ∷ []) []) l z z i (rw (le-leb lo z a, lt-ltb z hi b) (inl refl))

  -- it is as long as the places of its bounds lie apart
  pub between-long : lo ≤ hi → (l : List ℕ) → below lo l + length (between l) ≡ below hi l
  unfolding below
  between-long o [] = refl
  between-long o (x ∷ l) =
      let r : below lo l + length (between l) ≡ below hi l = between-long o l in
      elim (either (ltb x lo)) [
        | inl p ↦
            let u : x < lo = ltb-true x lo p in
            rw (p, lt-leb lo x u, lt-ltb x hi (omega arith)) (omega arith)
        | inr p ↦
            let u : lo ≤ x = ltb-false x lo p in
            elim (either (ltb x hi)) [
              | inl q ↦ rw (p, le-leb lo x u, q) (omega arith)
              | inr q ↦ rw (p, le-leb lo x u, q) (omega arith)
            ]
      ]
