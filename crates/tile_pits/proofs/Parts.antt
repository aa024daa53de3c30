-- A tile's part of the keys in lent words is what its lists mark: for the pits and for the sure ones alike. Assumes nothing.
use Rattle.wire.proofs.Basics.{◌∙◌, sym, ◌≡◌, ap, refl, subst, ℕ, ◌≤◌, ◌+◌, ◌<◌, ◌-◌, suc, zero, ◌%◌, List, [], ◌∷◌, map, true, inl, inr, length, get_or, eqb, ltb, eq-eqb, lt-ltb, eqb-true, ltb-false}
use Rattle.wire.proofs.Basics.{ltb-true, arith}
use Rattle.wire.proofs.Choices.{either, and_l, and_r}
use Rattle.words.specs.Builds.{build}
use Rattle.words.proofs.Builds.{length-build, get_or-build}
use Rattle.sorted_set.specs.Lists.{In, gather, rising, Rising, below}
use Rattle.sorted_set.specs.Halving.{held, rank_in, is_there, Holds}
use Rattle.sorted_set.proofs.Members.{in-at, Place, place, gather_in, gather-from, Source, map_in_lem, map-from, Origin}
use Rattle.sorted_set.proofs.Rises.{rising-rises, rising_members, rising-unique}
use Rattle.sorted_set.proofs.Sets.{all_held, as_many, word_at, rank_below}
use Rattle.sorted_set.proofs.Places.{below-most, before, behind, stands, stands_in}
use Rattle.count_rules.specs.Marks.{Mark, PitList}
use Rattle.count_rules.specs.Report.{distinct}
use Rattle.count_rules.specs.Keys.{span, pit_key, keys_by}
use Rattle.count_rules.proofs.ListMembers.{Taken, taken-from, taken_in}
use Rattle.pit_marks.specs.Lines.{end_of, pits_in}
use Rattle.tile_pits.specs.Pits.{first_of}

-- ---- lists that are built

rises-at : (l : List ℕ) → Rising l → (i j : ℕ) → i < j → j < length l → get_or l i 0 < get_or l j 0
rises-at [] r i j h b = absurd (let z : ⊥ = omega arith in z)
rises-at (x ∷ l) r zero zero h b = absurd (let z : ⊥ = omega arith in z)
rises-at (x ∷ l) r zero (suc j) h b = r.0 (get_or l j 0) (in-at l j 0 (omega arith))
rises-at (x ∷ l) r (suc i) zero h b = absurd (let z : ⊥ = omega arith in z)
rises-at (x ∷ l) r (suc i) (suc j) h b = rises-at l r.1 i j (omega arith) (omega arith)

record Built (n : ℕ) (f : ℕ → ℕ) (y : ℕ) : Type 0 where
  i : ℕ
  few : i < n
  is : y ≡ f i

built-from : (n : ℕ) (f : ℕ → ℕ) (y : ℕ) → In y (build n f) → Built n f y
built-from n f y k =
    let p : Place (build n f) 0 y = place (build n f) 0 y k in
    let b : p.i < n = omega (arith, p.inside, length-build n f) in
    record { i = p.i; few = b; is = p.here ∙ get_or-build n f p.i 0 b }

built_in : (n : ℕ) (f : ℕ → ℕ) (i : ℕ) → i < n → In (f i) (build n f)
built_in n f i h = subst (λ (y : ℕ). In y (build n f)) (get_or-build n f i 0 h) (in-at (build n f) i 0 (omega (arith, length-build n f)))

build-rises : (n : ℕ) (f : ℕ → ℕ) → ((i j : ℕ) → i < j → j < n → f i < f j) → Rising (build n f)
build-rises zero f h = tt
build-rises (suc n) f h = (
  λ y k. let b : Built n (λ i. f (suc i)) y = built-from n (λ i. f (suc i)) y k in subst (λ (z : ℕ). f 0 < z) (sym b.is) (h 0 (suc b.i) (omega arith) (omega (arith, b.few))),
  build-rises n (λ i. f (suc i)) (λ i j a b. h (suc i) (suc j) (omega arith) (omega arith)),
)

-- ---- whether a number stands in words that hold K

module _ (w : List ℕ) (n : ℕ) (K : List ℕ) (h : Holds w n K) (x : ℕ) where
  pub there_in : is_there w n x ≡ true → In x K
  there_in t =
      let a : rank_in w n x < held w n = ltb-true _ _ (and_l (ltb (rank_in w n x) (held w n)) (eqb (get_or w (rank_in w n x) 0) x) t) in
      let e : get_or w (rank_in w n x) 0 ≡ x = eqb-true _ _ (and_r (ltb (rank_in w n x) (held w n)) (eqb (get_or w (rank_in w n x) 0) x) t) in
      let b : below x K < length K = omega (arith, rank_below w n K h x, as_many w n K h, all_held w n K h) in
      stands_in x K b (sym (word_at w n K h (below x K) (omega (arith, as_many w n K h))) ∙ (ap (λ (i : ℕ). get_or w i 0) (sym (rank_below w n K h x)) ∙ e))

  pub in-there : In x K → is_there w n x ≡ true
  in-there i =
      let s : (below x K < length K) × (get_or K (below x K) 0 ≡ x) = stands x K h.rises i in
      let a : rank_in w n x < held w n = omega (arith, s.0, rank_below w n K h x, as_many w n K h, all_held w n K h) in
      let e : get_or w (rank_in w n x) 0 ≡ x = ap (λ (j : ℕ). get_or w j 0) (rank_below w n K h x) ∙ (word_at w n K h (below x K) (omega (arith, s.0, as_many w n K h)) ∙ s.1) in
      rw (lt-ltb _ _ a, eq-eqb _ _ e)

-- ---- a tile's part of rising keys K that words hold

module _ (w : List ℕ) (n : ℕ) (K : List ℕ) (h : Holds w n K) (last : below (pit_key span 0) K ≡ length K) (t : ℕ) (small : t < span) where
  abbrev lo : ℕ
  lo = pit_key t 0

  abbrev hi : ℕ
  hi = pit_key (suc t) 0

  own : t % span ≡ t
  own = omega arith

  pub first-is : first_of w n t ≡ below lo K
  first-is = ap (λ (u : ℕ). rank_in w n (pit_key u 0)) own ∙ rank_below w n K h lo

  end_is : end_of w n t ≡ below hi K
  end_is = elim (either (ltb (suc t) span)) [
    | inl e ↦ rw e (rank_below w n K h hi)
    | inr e ↦
        let o : span ≤ suc t = ltb-false (suc t) span e in
        let q : suc t ≡ span = omega arith in
        rw e (all_held w n K h ∙ (sym (as_many w n K h) ∙ (sym last ∙ ap (λ (y : ℕ). below (pit_key y 0) K) (sym q))))
  ]

  many_is : pits_in w n t ≡ below hi K - below lo K
  unfolding pits_in
  many_is = rw own (λ i. end_is i - rank_below w n K h lo i)

  abbrev key : ℕ → ℕ
  key i = get_or w (first_of w n t + i) 0

  record InPart (i : ℕ) : Type 0 where
    inside : below lo K + i < length K
    is : key i ≡ get_or K (below lo K + i) 0
    from : lo ≤ key i
    to : key i < hi

  in-part : (i : ℕ) → i < pits_in w n t → InPart i
  in-part i b =
      let m : i < below hi K - below lo K = omega (arith, many_is) in
      let j : ℕ = below lo K + i in
      let c : j < length K = omega (arith, below-most hi K) in
      let e : key i ≡ get_or K j 0 = ap (λ (k : ℕ). get_or w (k + i) 0) first-is ∙ word_at w n K h j (omega (arith, as_many w n K h)) in
      record {
        inside = c;
        is = e;
        from = elim (either (ltb (get_or K j 0) lo)) [
          | inl q ↦ absurd (let z : ⊥ = omega (arith, before lo K h.rises j c (ltb-true (get_or K j 0) lo q)) in z)
          | inr q ↦ omega (arith, ltb-false (get_or K j 0) lo q)
        ];
        to = elim (either (ltb (get_or K j 0) hi)) [
          | inl q ↦ omega (arith, ltb-true (get_or K j 0) hi q)
          | inr q ↦ absurd (let z : ⊥ = omega (arith, behind hi K h.rises j c (ltb-false (get_or K j 0) hi q)) in z)
        ];
      }

  -- it is the tile's number before the pit's
  pub key-is : (i : ℕ) → i < pits_in w n t → key i ≡ pit_key t (key i % span)
  key-is i b = let p : InPart i = in-part i b in omega (arith, p.from, p.to)

  key_in_lem : (i : ℕ) → i < pits_in w n t → In (key i) K
  key_in_lem i b = let p : InPart i = in-part i b in subst (λ (k : ℕ). In k K) (sym p.is) (in-at K (below lo K + i) 0 p.inside)

  record Found (k : ℕ) : Type 0 where
    i : ℕ
    few : i < pits_in w n t
    is : key i ≡ k

  find : (p : ℕ) → p < span → In (pit_key t p) K → Found (pit_key t p)
  find p o i =
      let k : ℕ = pit_key t p in
      let s : (below k K < length K) × (get_or K (below k K) 0 ≡ k) = stands k K h.rises i in
      let a : below lo K ≤ below k K = behind lo K h.rises (below k K) s.0 (omega (arith, s.1)) in
      let b : below k K < below hi K = before hi K h.rises (below k K) s.0 (omega (arith, s.1)) in
      let c : below k K - below lo K < pits_in w n t = omega (arith, many_is) in
      let q : below lo K + (below k K - below lo K) ≡ below k K = omega arith in
      record { i = below k K - below lo K; few = c; is = (in-part (below k K - below lo K) c).is ∙ (ap (λ (j : ℕ). get_or K j 0) q ∙ s.1) }

  part-rises : Rising (build (pits_in w n t) (λ i. key i % span))
  part-rises = build-rises (pits_in w n t) (λ i. key i % span) (λ i j a b.
      let p : InPart i = in-part i (omega arith) in
      let q : InPart j = in-part j b in
      let r : get_or K (below lo K + i) 0 < get_or K (below lo K + j) 0 = rises-at K h.rises (below lo K + i) (below lo K + j) (omega arith) q.inside in
      let c : key i < key j = omega (arith, p.is, q.is) in
      omega (arith, p.from, q.to))

-- ---- what g takes from the marks of lists

module _ (g : Mark → List ℕ) (ls : List PitList) (within : (t p : ℕ) → Taken g ls t p → (t < span) × (p < span)) where
  abbrev keys : List ℕ
  keys = rising (keys_by g ls)

  record Key (k : ℕ) : Type 0 where
    tile : ℕ
    pit : ℕ
    is : k ≡ pit_key tile pit
    taken : Taken g ls tile pit

  key_of : (k : ℕ) → In k keys → Key k
  key_of k i =
      let s : Source (λ (l : PitList). map (pit_key l.tile) (gather g l.marks)) ls k = gather-from _ ls k ((rising_members _).there k i) in
      let o : Origin (pit_key s.x.tile) (gather g s.x.marks) k = map-from _ _ k s.gives in
      let r : Source g s.x.marks o.x = gather-from g s.x.marks o.x o.inside in
      record {
        tile = s.x.tile;
        pit = o.x;
        is = o.gives;
        taken = record { list = s.x; among = s.inside; its-tile = refl; mark = r.x; inside = r.inside; gives = r.gives };
      }

  pub to-keys : (t p : ℕ) → Taken g ls t p → In (pit_key t p) keys
  to-keys t p a =
      let e : pit_key a.list.tile p ≡ pit_key t p = ap (λ (u : ℕ). pit_key u p) a.its-tile in
      (rising_members _).back (pit_key t p) (gather_in (λ (l : PitList). map (pit_key l.tile) (gather g l.marks)) ls a.list (pit_key t p) a.among
      (subst (λ (x : ℕ). In x (map (pit_key a.list.tile) (gather g a.list.marks))) e
      (map_in_lem (pit_key a.list.tile) (gather g a.list.marks) p (gather_in g a.list.marks a.mark p a.inside a.gives))))

  pub from-keys : (t p : ℕ) → p < span → In (pit_key t p) keys → Taken g ls t p
  from-keys t p o i =
      let z : Key (pit_key t p) = key_of (pit_key t p) i in
      let b : z.pit < span = (within z.tile z.pit z.taken).1 in
      let e : z.tile ≡ t = omega (arith, z.is) in
      let f : z.pit ≡ p = omega (arith, z.is) in
      subst (λ (u : ℕ). Taken g ls u p) e (subst (λ (q : ℕ). Taken g ls z.tile q) f z.taken)

  module _ (w : List ℕ) (n : ℕ) (h : Holds w n keys) (last : below (pit_key span 0) keys ≡ length keys) (t : ℕ) (small : t < span) where
    abbrev numbers : List ℕ
    numbers = build (pits_in w n t) (λ i. get_or w (first_of w n t + i) 0 % span)

    -- a tile's part is what its lists mark, rising
    pub numbers-are : numbers ≡ distinct g ls t
    numbers-are = rising-unique numbers (distinct g ls t) (part-rises w n keys h last t small) (rising-rises _) (record {
      there = λ p i.
          let b : Built (pits_in w n t) (λ i. key w n keys h last t small i % span) p = built-from _ _ p i in
          let o : p < span = omega (arith, b.is) in
          let e : key w n keys h last t small b.i ≡ pit_key t p = key-is w n keys h last t small b.i b.few ∙ ap (pit_key t) (sym b.is) in
          taken_in g ls t p (from-keys t p o (subst (λ (k : ℕ). In k keys) e (key_in_lem w n keys h last t small b.i b.few)));
      back = λ p i.
          let a : Taken g ls t p = taken-from g ls t p i in
          let o : p < span = (within t p a).1 in
          let f : Found w n keys h last t small (pit_key t p) = find w n keys h last t small p o (to-keys t p a) in
          let e : key w n keys h last t small f.i % span ≡ p = omega (arith, f.is) in
          subst (λ (q : ℕ). In q numbers) e (built_in (pits_in w n t) (λ i. key w n keys h last t small i % span) f.i f.few);
    })

    pub many-are : pits_in w n t ≡ length (distinct g ls t)
    many-are = sym (length-build (pits_in w n t) (λ i. key w n keys h last t small i % span)) ∙ ap (λ (l : List ℕ). length l) numbers-are
