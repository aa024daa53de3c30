-- `rising` gives the distinct numbers of a list, each once, in rising order; a rising list is known by its members. Assumes nothing.
use Rattle.wire.proofs.Basics.{◌∙◌, sym, ◌≡◌, ap, refl, subst, ℕ, ◌≤◌, ◌<◌, suc, zero-le, List, [], ◌∷◌, ◌++◌, true, false, Bool, inl, inr, ◌≢◌, ◌⊎◌, length, eqb, ltb, eqb-true, ltb-false, ltb-true}
use Rattle.wire.proofs.Basics.{eqb-false, le_refl, ℕ_discrete, arith}
use Rattle.wire.specs.Choice.{pick}
use Rattle.sorted_set.specs.Lists.{In, SameMembers, total, enter, rising, Rising}
use Rattle.sorted_set.proofs.Members.{in_left, in_right, in_either}
use Rattle.sorted_set.proofs.Sums.{length-total}

-- the three cases of `enter`
pub enter-all : (P : List ℕ → Type 0) (x y : ℕ) (ys : List ℕ)
    → (x < y → P (x ∷ y ∷ ys)) → (x ≡ y → P (y ∷ ys)) → (y < x → P (y ∷ enter x ys)) → P (enter x (y ∷ ys))
unfolding enter
enter-all P x y ys a b c = go (ltb x y) refl (eqb x y) refl
  where
    go : (s : Bool) → ltb x y ≡ s → (t : Bool) → eqb x y ≡ t → P (pick s (x ∷ y ∷ ys) (pick t (y ∷ ys) (y ∷ enter x ys)))
    go true p t q = a (ltb-true x y p)
    go false p true q = b (eqb-true x y q)
    go false p false q =
        let u : y ≤ x = ltb-false x y p in
        let v : x ≡ y → ⊥ = eqb-false x y q in
        c (omega arith)

module _ (x : ℕ) where
  pub entered : (l : List ℕ) → In x (enter x l)
  unfolding enter
  entered [] = inl refl
  entered (y ∷ l) = enter-all (In x) x y l (λ p. inl refl) (λ p. inl p) (λ p. inr (entered l))

  pub enter-keeps : (l : List ℕ) (z : ℕ) → In z l → In z (enter x l)
  unfolding enter
  enter-keeps [] z h = absurd h
  enter-keeps (y ∷ l) z h = enter-all (In z) x y l (λ p. inr h) (λ p. h) (λ p. elim h [ inl e ↦ inl e | inr k ↦ inr (enter-keeps l z k) ])

  pub enter-from : (l : List ℕ) (z : ℕ) → In z (enter x l) → (z ≡ x) ⊎ In z l
  unfolding enter
  enter-from [] z = λ h. h
  enter-from (y ∷ l) z = enter-all (λ (m : List ℕ). In z m → (z ≡ x) ⊎ In z (y ∷ l)) x y l
      (λ p h. h)
      (λ p h. inr h)
      (λ p h. elim h [ inl e ↦ inr (inl e) | inr k ↦ elim (enter-from l z k) [ inl e ↦ inl e | inr m ↦ inr (inr m) ] ])

  pub enter-rises : (l : List ℕ) → Rising l → Rising (enter x l)
  unfolding enter
  enter-rises [] r = (λ y h. absurd h, tt)
  enter-rises (y ∷ l) r = enter-all Rising x y l
      (λ p. (λ z h. elim h [ inl e ↦ omega arith | inr k ↦ let q : y < z = r.0 z k in omega arith ], r))
      (λ p. r)
      (λ p. (λ z h. elim (enter-from l z h) [ inl e ↦ omega arith | inr k ↦ r.0 z k ], enter-rises l r.1))

pub rising-rises : (l : List ℕ) → Rising (rising l)
unfolding rising
rising-rises [] = tt
rising-rises (x ∷ l) = enter-rises x (rising l) (rising-rises l)

rising-there : (l : List ℕ) (z : ℕ) → In z (rising l) → In z l
unfolding rising
rising-there [] z h = h
rising-there (x ∷ l) z h = elim (enter-from x (rising l) z h) [ inl e ↦ inl e | inr k ↦ inr (rising-there l z k) ]

rising-back : (l : List ℕ) (z : ℕ) → In z l → In z (rising l)
unfolding rising
rising-back [] z h = h
rising-back (x ∷ l) z (inl e) = subst (λ (w : ℕ). In w (enter x (rising l))) (sym e) (entered x (rising l))
rising-back (x ∷ l) z (inr h) = enter-keeps x (rising l) z (rising-back l z h)

pub rising_members : (l : List ℕ) → SameMembers (rising l) l
rising_members l = record { there = rising-there l; back = rising-back l }

-- of two rising lists with the same members, the first numbers are one
same_first : (x y : ℕ) (l m : List ℕ) → Rising (x ∷ l) → Rising (y ∷ m) → In x (y ∷ m) → In y (x ∷ l) → x ≡ y
same_first x y l m r s (inl e) k = e
same_first x y l m r s (inr h) (inl e) = sym e
same_first x y l m r s (inr h) (inr k) =
    let a : y < x = s.0 x h in
    let b : x < y = r.0 y k in
    omega arith

same_rest : (x y : ℕ) (l m : List ℕ) → Rising (x ∷ l) → x ≡ y → (z : ℕ) → In z l → In z (y ∷ m) → In z m
same_rest x y l m r e z h (inl q) = absurd (let a : x < z = r.0 z h in let b : ⊥ = omega arith in b)
same_rest x y l m r e z h (inr k) = k

-- a rising list is known by its members
pub rising-unique : (l m : List ℕ) → Rising l → Rising m → SameMembers l m → l ≡ m
rising-unique [] [] r s c = refl
rising-unique [] (y ∷ m) r s c = absurd (c.back y (inl refl))
rising-unique (x ∷ l) [] r s c = absurd (c.there x (inl refl))
rising-unique (x ∷ l) (y ∷ m) r s c =
    let e : x ≡ y = same_first x y l m r s (c.there x (inl refl)) (c.back y (inl refl)) in
    λ i. e i ∷ rising-unique l m r.1 s.1 (record {
      there = λ z h. same_rest x y l m r e z h (c.there z (inr h));
      back = λ z h. same_rest y x m l s (sym e) z h (c.back z (inr h));
    }) i

-- the distinct numbers depend on the members only
pub rising-same : (l m : List ℕ) → SameMembers l m → rising l ≡ rising m
rising-same l m s = rising-unique (rising l) (rising m) (rising-rises l) (rising-rises m) (record {
  there = λ z h. rising-back m z (s.there z (rising-there l z h));
  back = λ z h. rising-back l z (s.back z (rising-there m z h));
})

-- a number of the longer list that is not its first
later : (x y z : ℕ) (l m : List ℕ) → Rising (x ∷ l) → Rising (y ∷ m) → x ≢ y → In z (x ∷ l) → In x (y ∷ m) → In z (y ∷ m) → In z m
later x y z l m r s n h (inl q) k = absurd (n q)
later x y z l m r s n h (inr q) (inr k) = k
later x y z l m r s n (inl i) (inr q) (inl k) = absurd (n (sym i ∙ k))
later x y z l m r s n (inr i) (inr q) (inl k) = absurd (let a : y < x = s.0 x q in let b : x < z = r.0 z i in let f : ⊥ = omega arith in f)

-- fewer members, each with less: a smaller sum
pub rising-less : (w v : ℕ → ℕ) → ((z : ℕ) → w z ≤ v z) → (l m : List ℕ) → Rising l → Rising m → ((z : ℕ) → In z l → In z m) → total w l ≤ total v m
rising-less w v o [] m r s c = zero-le
rising-less w v o (x ∷ l) [] r s c = absurd (c x (inl refl))
rising-less w v o (x ∷ l) (y ∷ m) r s c = elim (ℕ_discrete x y) [
  | yes e ↦
      let n : total w l ≤ total v m = rising-less w v o l m r.1 s.1 (λ z h. same_rest x y l m r e z h (c z (inr h))) in
      let k : w x ≤ v y = subst (λ (z : ℕ). w x ≤ v z) e (o x) in
      omega arith
  | no e ↦
      let n : total w (x ∷ l) ≤ total v m = rising-less w v o (x ∷ l) m r s.1 (λ z h. later x y z l m r s e h (c x (inl refl)) (c z h)) in
      omega arith
]

pub distinct-less : (w v : ℕ → ℕ) → ((z : ℕ) → w z ≤ v z) → (l m : List ℕ) → ((z : ℕ) → In z l → In z m) → total w (rising l) ≤ total v (rising m)
distinct-less w v o l m c = rising-less w v o (rising l) (rising m) (rising-rises l) (rising-rises m) (λ z h. rising-back m z (c z (rising-there l z h)))

pub distinct-fewer : (l m : List ℕ) → ((z : ℕ) → In z l → In z m) → length (rising l) ≤ length (rising m)
distinct-fewer l m c =
    let a : length (rising l) ≡ total (λ z. 1) (rising l) = length-total (rising l) in
    let b : length (rising m) ≡ total (λ z. 1) (rising m) = length-total (rising m) in
    let k : total (λ z. 1) (rising l) ≤ total (λ z. 1) (rising m) = distinct-less (λ z. 1) (λ z. 1) (λ z. le_refl 1) l m c in
    omega arith

-- ---- one number more

-- a number that stands there changes nothing
pub enter_old : (x : ℕ) (l : List ℕ) → Rising l → In x l → enter x l ≡ l
enter_old x l r h = rising-unique (enter x l) l (enter-rises x l r) r (record {
  there = λ z k. elim (enter-from x l z k) [ inl e ↦ subst (λ (y : ℕ). In y l) (sym e) h | inr i ↦ i ];
  back = λ z k. enter-keeps x l z k;
})

-- a new number is one more
pub enter-new : (x : ℕ) (l : List ℕ) → (In x l → ⊥) → length (enter x l) ≡ suc (length l)
unfolding enter
enter-new x [] n = refl
enter-new x (y ∷ l) n = enter-all (λ (m : List ℕ). length m ≡ suc (length (y ∷ l))) x y l
    (λ p. refl)
    (λ p. absurd (n (inl p)))
    (λ p. ap suc (enter-new x l (λ h. n (inr h))))

-- wherever it stands in the list
pub rising-more : (x : ℕ) (l m : List ℕ) → rising (l ++ x ∷ m) ≡ enter x (rising (l ++ m))
unfolding rising
rising-more x l m = rising-same (l ++ x ∷ m) (x ∷ (l ++ m)) (record {
  there = λ z h. elim (in_either z l (x ∷ m) h) [ inl k ↦ inr (in_left z l m k) | inr k ↦ elim k [ inl e ↦ inl e | inr j ↦ inr (in_right z l m j) ] ];
  back = λ z h. elim h [ inl e ↦ in_right z l (x ∷ m) (inl e) | inr k ↦ elim (in_either z l m k) [ inl j ↦ in_left z l (x ∷ m) j | inr j ↦ in_right z l (x ∷ m) (inr j) ] ];
})
