-- EXACTLY WHAT IS REMEMBERED after any deliveries and forgettings: a key that is among its sender's last 32 deliveries since that sender was forgotten or
-- dropped, and of the senders the 16 whose latest deliveries are the latest. So a 17th drops the one furthest back, and forgetting leaves the rest in their order.
use Rattle.wire.proofs.Basics.{◌∙◌, sym, ◌≡◌, ap, refl, subst, ℕ, ◌≤◌, ◌+◌, ◌<◌, ◌-◌, suc, zero, zero-le, List, [], ◌∷◌, map, true, false, Bool, ◌&&◌, ◌||◌, inl, inr, ◌≢◌, some, none, Option, length}
use Rattle.wire.proofs.Basics.{take, length-map, get_or-replicate, take_all, eqb, ltb, eq-eqb, le-ltb, ne_eqb, lt-ltb, eqb-true, not-suc-le-zero, le_refl, ℕ_discrete, dec_le, arith}
use Rattle.wire.specs.Choice.{pick}
use Rattle.wire.proofs.Choices.{either, never, and-of, or_l, or_r, or-of-right, pick_all}
use Rattle.steps.specs.Limits.{senders_most, keys_each}
use Rattle.steps.specs.Search.{first}
use Rattle.steps.specs.Memory.{Key, same_key, among, Place, no_place, vacant, is_of, has, Memory, empty_memory, place_at, is_remembered_lem, furthest_back, place_for_lem, or_else, with_key}
use Rattle.steps.specs.Memory.{sunk, remember, freed, forget_keys, remember_all, since, Lately, FewSenders, Deed, delivery, forgetting, memory_after, without, latest, sequences_of, among_last, is_there, is_known_lem}
use Rattle.steps.proofs.Tables.{or-not, or_yes, First, first_some, first-none}
use Rattle.steps.proofs.Memories.{key-same, has-reverse, without-less, without_other, at_most, Whole, empty-whole, empty-vacant, remember-whole, forget-whole, forget-at, Seated, own, free, full, seated, place_inside}
use Rattle.steps.proofs.Memories.{own-place, found, not_found, of-sender, of-taken, taken-of, vacant-of, key-taken, key-sender, after-here, after-other, Holds, holds-own, holds-first, freed-own, freed-same, freed-other}

-- ---- lists of numbers, each once

abbrev Apart : List ℕ → Type 0
Apart [] = Unit {0}
Apart (x ∷ l) = (has l x ≡ false) × Apart l

without-none : (l : List ℕ) (x : ℕ) → has l x ≡ false → without l x ≡ l
without-none [] x e = refl
without-none (y ∷ l) x e = rw (or_l (eqb y x) (has l x) e) (ap (λ (t : List ℕ). y ∷ t) (without-none l x (or_r (eqb y x) (has l x) e)))

without-has : (l : List ℕ) (x z : ℕ) → has (without l x) z ≡ true → (z ≢ x) × (has l z ≡ true)
without-has [] x z e = never e refl
without-has (y ∷ l) x z e = elim (ℕ_discrete y x) [
  | yes q ↦
      let r = without-has l x z (rw (eq-eqb y x q) at e) in
      (r.0, or-of-right (eqb y z) r.1)
  | no q ↦ here (without-has l x z) q (rw (ne_eqb y x q) at e)
]
  where
    here : (has (without l x) z ≡ true → (z ≢ x) × (has l z ≡ true)) → y ≢ x → (eqb y z || has (without l x) z) ≡ true → (z ≢ x) × ((eqb y z || has l z) ≡ true)
    here ih q p = elim (either (eqb y z)) [
      | inl t ↦ ((λ w. q (eqb-true y z t ∙ w)), or_yes (eqb y z) (has l z) t)
      | inr t ↦
          let r = ih (sym (or-not (eqb y z) (has (without l x) z) t) ∙ p) in
          (r.0, or-of-right (eqb y z) r.1)
    ]

without-lacks : (l : List ℕ) (x z : ℕ) → has l z ≡ false → has (without l x) z ≡ false
without-lacks l x z e = elim (either (has (without l x) z)) [ inl t ↦ never (without-has l x z t).1 e | inr t ↦ t ]

without_gone : (l : List ℕ) (x : ℕ) → has (without l x) x ≡ false
without_gone l x = elim (either (has (without l x) x)) [ inl t ↦ absurd ((without-has l x x t).0 refl) | inr t ↦ t ]

without-apart : (l : List ℕ) (x : ℕ) → Apart l → Apart (without l x)
without-apart [] x a = tt
without-apart (y ∷ l) x a = elim (ℕ_discrete y x) [
  | yes q ↦ rw (eq-eqb y x q) (without-apart l x a.1)
  | no q ↦ rw (ne_eqb y x q) (without-lacks l x y a.0, without-apart l x a.1)
]

-- at most one goes
without-one : (l : List ℕ) (x : ℕ) → Apart l → length l ≤ suc (length (without l x))
without-one [] x a = zero-le
without-one (y ∷ l) x a = elim (ℕ_discrete y x) [
  | yes q ↦
      let z : without l x ≡ l = without-none l x (subst (λ (t : ℕ). has l t ≡ false) q a.0) in
      rw (eq-eqb y x q) (rw z (le_refl (suc (length l))))
  | no q ↦
      let r : length l ≤ suc (length (without l x)) = without-one l x a.1 in
      rw (ne_eqb y x q) (omega arith)
]

-- at most n different numbers below n
fits : (n : ℕ) (l : List ℕ) → Apart l → ((x : ℕ) → has l x ≡ true → x < n) → length l ≤ n
fits zero [] a h = zero-le
fits zero (y ∷ l) a h = absurd (let z : y < 0 = h y (or_yes (eqb y y) (has l y) (eq-eqb y y refl)) in let w : ⊥ = omega arith in w)
fits (suc n) l a h =
    let r : length (without l n) ≤ n = fits n (without l n) (without-apart l n a) (λ x e.
    let p = without-has l n x e in
    let b : x < suc n = h x p.1 in
    let d : x ≢ n = p.0 in
    omega arith) in
    omega (arith, without-one l n a)

-- where a number stands; one that is not there, behind all
abbrev index_of : List ℕ → ℕ → ℕ
index_of [] x = 0
index_of (y ∷ l) x = pick (eqb y x) 0 (suc (index_of l x))

index-less : (l : List ℕ) (x : ℕ) → has l x ≡ true → index_of l x < length l
index-less [] x e = never e refl
index-less (y ∷ l) x e = elim (either (eqb y x)) [
  | inl t ↦ rw t (omega arith)
  | inr t ↦
      let r : index_of l x < length l = index-less l x (sym (or-not (eqb y x) (has l x) t) ∙ e) in
      rw t (omega arith)
]

index-lacks : (l : List ℕ) (x : ℕ) → has l x ≡ false → index_of l x ≡ length l
index-lacks [] x e = refl
index-lacks (y ∷ l) x e = rw (or_l (eqb y x) (has l x) e) (ap suc (index-lacks l x (or_r (eqb y x) (has l x) e)))

-- two numbers do not stand in one place
index-other : (l : List ℕ) (x z : ℕ) → has l x ≡ true → x ≢ z → index_of l x ≢ index_of l z
index-other [] x z e n q = never e refl
index-other (y ∷ l) x z e n q = elim (ℕ_discrete y x) [
  | yes a ↦
      let w : 0 ≡ suc (index_of l z) = rw (eq-eqb y x a, ne_eqb y z (λ b. n (sym a ∙ b))) at q in
      omega arith
  | no a ↦ elim (ℕ_discrete y z) [
    | yes b ↦
        let w : suc (index_of l x) ≡ 0 = rw (ne_eqb y x a, eq-eqb y z b) at q in
        omega arith
    | no b ↦
        let w : suc (index_of l x) ≡ suc (index_of l z) = rw (ne_eqb y x a, ne_eqb y z b) at q in
        index-other l x z (sym (or-not (eqb y x) (has l x) (ne_eqb y x a)) ∙ e) n (omega arith)
  ]
]

up-both : (a b : ℕ) → suc (pick (ltb a b) (b - 1) b) ≡ pick (ltb (suc a) (suc b)) (suc b - 1) (suc b)
up-both a b = elim (dec_le (suc a) b) [
  | yes h ↦ rw (lt-ltb a b h, lt-ltb (suc a) (suc b) (omega arith)) (omega arith)
  | no h ↦ rw (le-ltb a b (omega arith), le-ltb (suc a) (suc b) (omega arith))
]

-- those behind x move up by one
index-without : (l : List ℕ) (x z : ℕ) → Apart l → z ≢ x → has l z ≡ true → index_of (without l x) z ≡ pick (ltb (index_of l x) (index_of l z)) (index_of l z - 1) (index_of l z)
index-without [] x z a n e = never e refl
index-without (y ∷ l) x z a n e = elim (ℕ_discrete y x) [
  | yes q ↦
      let d : eqb y z ≡ false = ne_eqb y z (λ p. n (sym p ∙ q)) in
      let g : without l x ≡ l = without-none l x (subst (λ (t : ℕ). has l t ≡ false) q a.0) in
      let b : ltb 0 (suc (index_of l z)) ≡ true = lt-ltb 0 (suc (index_of l z)) (omega arith) in
      rw (eq-eqb y x q, d, g, b) (omega arith)
  | no q ↦ elim (either (eqb y z)) [
    | inl t ↦
        let b : ltb (suc (index_of l x)) 0 ≡ false = le-ltb (suc (index_of l x)) 0 (omega arith) in
        rw (ne_eqb y x q, t, b)
    | inr t ↦
        let r : index_of (without l x) z ≡ pick (ltb (index_of l x) (index_of l z)) (index_of l z - 1) (index_of l z) =
        index-without l x z a.1 n (sym (or-not (eqb y z) (has l z) t) ∙ e) in
        rw (ne_eqb y x q, t) (ap suc r ∙ up-both (index_of l x) (index_of l z))
  ]
]

-- ---- some of a list's numbers

-- those that do not pass
abbrev besides : (ℕ → Bool) → List ℕ → List ℕ
besides v [] = []
besides v (i ∷ l) = pick (v i) (besides v l) (i ∷ besides v l)

besides-has : (v : ℕ → Bool) (l : List ℕ) (i : ℕ) → has (besides v l) i ≡ true → (has l i ≡ true) × (v i ≡ false)
besides-has v [] i e = never e refl
besides-has v (x ∷ l) i e = go (besides-has v l i) (v x) refl e
  where
    go : (has (besides v l) i ≡ true → (has l i ≡ true) × (v i ≡ false)) → (b : Bool) → v x ≡ b → has (pick b (besides v l) (x ∷ besides v l)) i ≡ true
        → ((eqb x i || has l i) ≡ true) × (v i ≡ false)
    go ih true t q = let r = ih q in (or-of-right (eqb x i) r.0, r.1)
    go ih false t q = elim (either (eqb x i)) [
      | inl s ↦ (or_yes (eqb x i) (has l i) s, subst (λ (y : ℕ). v y ≡ false) (eqb-true x i s) t)
      | inr s ↦ let r = ih (sym (or-not (eqb x i) (has (besides v l) i) s) ∙ q) in (or-of-right (eqb x i) r.0, r.1)
    ]

besides_in : (v : ℕ → Bool) (l : List ℕ) (i : ℕ) → has l i ≡ true → v i ≡ false → has (besides v l) i ≡ true
besides_in v [] i e q = e
besides_in v (x ∷ l) i e q = go (λ z. besides_in v l i z q) (v x) refl
  where
    go : (has l i ≡ true → has (besides v l) i ≡ true) → (b : Bool) → v x ≡ b → has (pick b (besides v l) (x ∷ besides v l)) i ≡ true
    go ih true t = ih (sym (or-not (eqb x i) (has l i) (ne_eqb x i (λ z. never (subst (λ (y : ℕ). v y ≡ true) z t) q))) ∙ e)
    go ih false t = elim (either (eqb x i)) [
      | inl s ↦ or_yes (eqb x i) (has (besides v l) i) s
      | inr s ↦ or-of-right (eqb x i) (ih (sym (or-not (eqb x i) (has l i) s) ∙ e))
    ]

besides-apart : (v : ℕ → Bool) (l : List ℕ) → Apart l → Apart (besides v l)
besides-apart v [] a = tt
besides-apart v (x ∷ l) a = go (besides-apart v l a.1) (v x)
  where
    lacks : has (besides v l) x ≡ false
    lacks = elim (either (has (besides v l) x)) [ inl t ↦ never (besides-has v l x t).0 a.0 | inr t ↦ t ]

    go : Apart (besides v l) → (b : Bool) → Apart (pick b (besides v l) (x ∷ besides v l))
    go ih true = ih
    go ih false = (lacks, ih)

besides-all : (v : ℕ → Bool) (l : List ℕ) → ((i : ℕ) → has l i ≡ true → v i ≡ false) → besides v l ≡ l
besides-all v [] h = refl
besides-all v (x ∷ l) h =
    ap (λ (b : Bool). pick b (besides v l) (x ∷ besides v l)) (h x (or_yes (eqb x x) (has l x) (eq-eqb x x refl)))
    ∙ ap (λ (t : List ℕ). x ∷ t) (besides-all v l (λ i e. h i (or-of-right (eqb x i) e)))

besides-without : (v : ℕ → Bool) (l : List ℕ) (p : ℕ) → besides v (without l p) ≡ without (besides v l) p
besides-without v [] p = refl
besides-without v (x ∷ l) p = go (besides-without v l p) (eqb x p) (v x) refl refl
  where
    go : besides v (without l p) ≡ without (besides v l) p → (a b : Bool) → eqb x p ≡ a → v x ≡ b
        → besides v (pick a (without l p) (x ∷ without l p)) ≡ without (pick b (besides v l) (x ∷ besides v l)) p
    go ih true true t s = ih
    go ih true false t s = ih ∙ sym (ap (λ (c : Bool). pick c (without (besides v l) p) (x ∷ without (besides v l) p)) t)
    go ih false true t s = ap (λ (c : Bool). pick c (besides v (without l p)) (x ∷ besides v (without l p))) s ∙ ih
    go ih false false t s =
        ap (λ (c : Bool). pick c (besides v (without l p)) (x ∷ besides v (without l p))) s ∙ ap (λ (y : List ℕ). x ∷ y) ih
        ∙ sym (ap (λ (c : Bool). pick c (without (besides v l) p) (x ∷ without (besides v l) p)) t)

besides-same : (u v : ℕ → Bool) (l : List ℕ) → ((i : ℕ) → has l i ≡ true → u i ≡ v i) → besides u l ≡ besides v l
besides-same u v [] h = refl
besides-same u v (x ∷ l) h =
    let r : besides u l ≡ besides v l = besides-same u v l (λ i e. h i (or-of-right (eqb x i) e)) in
    let q : u x ≡ v x = h x (or_yes (eqb x x) (has l x) (eq-eqb x x refl)) in
    λ i. pick (q i) (r i) (x ∷ r i)

-- ---- the places in order of their latest delivery

-- the sender at a place
abbrev sender_at : Memory → ℕ → ℕ
sender_at m i = (place_at m i).sender

abbrev free-at : Memory → ℕ → Bool
free-at m i = vacant (place_at m i)

-- of these places those that are taken
abbrev taken_of : Memory → List ℕ → List ℕ
taken_of m order = besides (free-at m) order

-- `order` has the places that have ever been taken, by the delivery that came to them last; a place that was freed keeps its turn among them
record Ordered (h : List Deed) (m : Memory) (order : List ℕ) : Type 0 where
  whole : Whole m
  apart : Apart order
  inside : (i : ℕ) → has order i ≡ true → i < senders_most
  turns : (i : ℕ) → has order i ≡ true → (place_at m i).turn + index_of order i ≡ senders_most - 1
  rest : (i : ℕ) → i < senders_most → has order i ≡ false → (vacant (place_at m i) ≡ true) × ((place_at m i).turn ≡ 0)
  -- the taken ones have the senders of the latest deliveries, and each the last 32 of its sender
  senders : map (sender_at m) (taken_of m order) ≡ latest h
  holds : (s j : ℕ) → j < senders_most → is_of s (place_at m j) ≡ true → Holds (sequences_of s h) (place_at m j)

key-turn : (k : Key) (x : Place) → (with_key k x).turn ≡ senders_most - 1
unfolding with_key
key-turn k x = refl

empty-rest : (i : ℕ) → i < senders_most → (vacant (place_at empty_memory i) ≡ true) × ((place_at empty_memory i).turn ≡ 0)
unfolding empty_memory
empty-rest i b = rw (get_or-replicate senders_most i no_place no_place b) (refl, refl)

-- none has a lower turn than the one furthest back
furthest-low : (m : Memory) (n j : ℕ) → j < n → (place_at m (furthest_back m n)).turn ≤ (place_at m j).turn
furthest-low m zero j h = absurd (let z : ⊥ = omega arith in z)
furthest-low m (suc n) j h = elim (dec_le (suc (place_at m n).turn) (place_at m (furthest_back m n)).turn) [
  | yes b ↦ rw (lt-ltb (place_at m n).turn (place_at m (furthest_back m n)).turn b) (elim (ℕ_discrete j n) [
    | yes q ↦ rw q (le_refl (place_at m n).turn)
    | no q ↦ omega (arith, furthest-low m n j (omega arith))
  ])
  | no b ↦ rw (le-ltb (place_at m n).turn (place_at m (furthest_back m n)).turn (omega arith)) (elim (ℕ_discrete j n) [
    | yes q ↦ rw q (omega arith)
    | no q ↦ furthest-low m n j (omega arith)
  ])
]

-- a sender that no taken place has is not among them
map-lacks : (f : ℕ → ℕ) (l : List ℕ) (s : ℕ) → ((i : ℕ) → has l i ≡ true → f i ≢ s) → has (map f l) s ≡ false
map-lacks f [] s h = refl
map-lacks f (x ∷ l) s h =
    rw (ne_eqb (f x) s (h x (or_yes (eqb x x) (has l x) (eq-eqb x x refl))))
    (map-lacks f l s (λ i e. h i (or-of-right (eqb x i) e)))

-- taking a place out takes its sender out
map-without : (f : ℕ → ℕ) (l : List ℕ) (p : ℕ) → ((i : ℕ) → has l i ≡ true → f i ≡ f p → i ≡ p) → map f (without l p) ≡ without (map f l) (f p)
map-without f [] p h = refl
map-without f (x ∷ l) p h = elim (ℕ_discrete x p) [
  | yes q ↦ rw (eq-eqb x p q, eq-eqb (f x) (f p) (ap f q)) (map-without f l p (λ i e. h i (or-of-right (eqb x i) e)))
  | no q ↦ rw (ne_eqb x p q, ne_eqb (f x) (f p) (λ e. q (h x (or_yes (eqb x x) (has l x) (eq-eqb x x refl)) e)))
      (ap (λ (t : List ℕ). f x ∷ t) (map-without f l p (λ i e. h i (or-of-right (eqb x i) e))))
]

map-has : (f : ℕ → ℕ) (l : List ℕ) (i : ℕ) → has l i ≡ true → has (map f l) (f i) ≡ true
map-has f [] i e = e
map-has f (x ∷ l) i e = elim (ℕ_discrete x i) [
  | yes q ↦ or_yes (eqb (f x) (f i)) (has (map f l) (f i)) (eq-eqb (f x) (f i) (ap f q))
  | no q ↦ or-of-right (eqb (f x) (f i)) (map-has f l i (sym (or-not (eqb x i) (has l i) (ne_eqb x i q)) ∙ e))
]

-- what stands in a place
at-index : (l : List ℕ) (n : ℕ) → n < length l → Apart l → (x : ℕ) × (has l x ≡ true) × (index_of l x ≡ n)
at-index [] n h a = absurd (let z : ⊥ = omega arith in z)
at-index (y ∷ l) zero h a = (y, or_yes (eqb y y) (has l y) (eq-eqb y y refl), rw (eq-eqb y y refl))
at-index (y ∷ l) (suc n) h a =
    let r = at-index l n (omega arith) a.1 in
    let d : eqb y r.0 ≡ false = ne_eqb y r.0 (λ q. never r.1 (subst (λ (z : ℕ). has l z ≡ false) q a.0)) in
    (r.0, or-of-right (eqb y r.0) r.1, rw d (ap suc r.2))

map_same : (f g : ℕ → ℕ) (l : List ℕ) → ((i : ℕ) → has l i ≡ true → f i ≡ g i) → map f l ≡ map g l
map_same f g [] h = refl
map_same f g (x ∷ l) h = rw (h x (or_yes (eqb x x) (has l x) (eq-eqb x x refl)), map_same f g l (λ i e. h i (or-of-right (eqb x i) e)))

-- the last is taken out
without-last : (f : ℕ → ℕ) (l : List ℕ) (p n : ℕ) → Apart l → has l p ≡ true → index_of l p ≡ n → length l ≡ suc n → map f (without l p) ≡ take n (map f l)
without-last f [] p n a e i b = never e refl
without-last f (x ∷ l) p n a e i b = elim (ℕ_discrete x p) [
  | yes q ↦
      let z : 0 ≡ n = rw (eq-eqb x p q) at i in
      let w : length l ≡ 0 = omega arith in
      let y : without l p ≡ l = without-none l p (subst (λ (t : ℕ). has l t ≡ false) q a.0) in
      rw (eq-eqb x p q, y, ← z) (none_left l w)
  | no q ↦
      let d : eqb x p ≡ false = ne_eqb x p q in
      let z : suc (index_of l p) ≡ n = rw d at i in
      let t : has l p ≡ true = sym (or-not (eqb x p) (has l p) d) ∙ e in
      rw (d, ← z) (ap (λ (y : List ℕ). f x ∷ y) (without-last f l p (index_of l p) a.1 t refl (omega arith)))
]
  where
    none_left : (l : List ℕ) → length l ≡ 0 → map f l ≡ []
    none_left [] h = refl
    none_left (y ∷ l) h = absurd (let w : ⊥ = omega arith in w)

-- a place that is not among these leaves room
room_for : (p : ℕ) → p < senders_most → (l : List ℕ) → Apart l → ((i : ℕ) → has l i ≡ true → i < senders_most) → has l p ≡ false → length l < senders_most
room_for p b l a h t = fits senders_most (p ∷ l) (t, a) (λ x e. elim (either (eqb p x)) [
  | inl q ↦ subst (λ (y : ℕ). y < senders_most) (eqb-true p x q) b
  | inr q ↦ h x (sym (or-not (eqb p x) (has l x) q) ∙ e)
])

module _ (h : List Deed) (m : Memory) (order : List ℕ) (o : Ordered h m order) where
  abbrev T : List ℕ
  T = taken_of m order

  T-apart : Apart T
  T-apart = besides-apart (free-at m) order o.apart

  T-inside : (i : ℕ) → has T i ≡ true → i < senders_most
  T-inside i e = o.inside i (besides-has (free-at m) order i e).0

  T-taken : (i : ℕ) → has T i ≡ true → vacant (place_at m i) ≡ false
  T-taken i e = (besides-has (free-at m) order i e).1

  -- a taken place is among them
  in_order : (i : ℕ) → i < senders_most → vacant (place_at m i) ≡ false → has order i ≡ true
  in_order i b v = elim (either (has order i)) [ inl t ↦ t | inr t ↦ never (o.rest i b t).0 v ]

  in-T : (i : ℕ) → i < senders_most → vacant (place_at m i) ≡ false → has T i ≡ true
  in-T i b v = besides_in (free-at m) order i (in_order i b v) v

  -- a sender without a place is not among the latest, and one with a place is
  not-latest : (s : ℕ) → ((j : ℕ) → j < senders_most → is_of s (place_at m j) ≡ false) → has (latest h) s ≡ false
  not-latest s a = rw (← o.senders) (map-lacks (sender_at m) T s (λ i e q. never (taken-of s (place_at m i) (T-taken i e) q) (a i (T-inside i e))))

  is-latest : (s j : ℕ) → j < senders_most → is_of s (place_at m j) ≡ true → has (latest h) s ≡ true
  is-latest s j b e =
      rw (← o.senders) (subst (λ (x : ℕ). has (map (sender_at m) T) x ≡ true) (of-sender s (place_at m j) e)
      (map-has (sender_at m) T j (in-T j b (of-taken s (place_at m j) e))))

  -- ---- a key is delivered

  module _ (k : Key) where
    abbrev p : ℕ
    p = place_for_lem m k.sender

    abbrev m' : Memory
    m' = remember m k

    abbrev order' : List ℕ
    order' = p ∷ without order p

    here : place_at m' p ≡ with_key k (place_at m p)
    here = after-here m o.whole.places k

    p-inside : p < senders_most
    p-inside = place_inside m o.whole.places k.sender

    there : (i : ℕ) → i < senders_most → i ≢ p → place_at m' i ≡ sunk (place_at m p).turn (place_at m i)
    there = after-other m o.whole.places k

    -- of the new order the first, or one of the others
    either_way : (i : ℕ) → has order' i ≡ true → (P : ℕ → Type 0) → P p → ((i : ℕ) → i ≢ p → has order i ≡ true → P i) → P i
    either_way i e P a b = elim (either (eqb p i)) [
      | inl t ↦ subst P (eqb-true p i t) a
      | inr t ↦
          let r = without-has order p i (sym (or-not (eqb p i) (has (without order p) i) t) ∙ e) in
          b i r.0 r.1
    ]

    next-turns : (i : ℕ) → i ≢ p → has order i ≡ true → (place_at m' i).turn + index_of order' i ≡ senders_most - 1
    next-turns i n e =
        let ii : ℕ = index_of order i in
        let was : (place_at m i).turn + index_of order i ≡ senders_most - 1 = o.turns i e in
        let moved : index_of (without order p) i ≡ pick (ltb (index_of order p) (index_of order i)) (index_of order i - 1) (index_of order i) = index-without order p i o.apart n e in
        let low : index_of order i < length order = index-less order i e in
        rw (there i (o.inside i e) n, ne_eqb p i (λ z. n (sym z)), moved) (elim (either (has order p)) [
          | inl t ↦
              let its : (place_at m p).turn + index_of order p ≡ senders_most - 1 = o.turns p t in
              elim (dec_le (suc (index_of order p)) (index_of order i)) [
                | yes h ↦ rw (lt-ltb (index_of order p) (index_of order i) h, le-ltb (place_at m p).turn (place_at m i).turn (omega arith)) (omega arith)
                | no h ↦
                    let d : index_of order i ≢ index_of order p = index-other order i p e n in
                    rw (le-ltb (index_of order p) (index_of order i) (omega arith), lt-ltb (place_at m p).turn (place_at m i).turn (omega arith)) (omega arith)
              ]
          | inr t ↦
              let its : (place_at m p).turn ≡ 0 = (o.rest p p-inside t).1 in
              let behind : index_of order p ≡ length order = index-lacks order p t in
              let room : length order < senders_most = room_for p p-inside order o.apart o.inside t in
              rw (le-ltb (index_of order p) (index_of order i) (omega arith), lt-ltb (place_at m p).turn (place_at m i).turn (omega arith)) (omega arith)
        ])

    -- the taken places then: p, and those that were before it
    next-taken : taken_of m' order' ≡ p ∷ without T p
    next-taken =
        ap (λ (b : Bool). pick b (besides (free-at m') (without order p)) (p ∷ besides (free-at m') (without order p))) (ap vacant here ∙ key-taken k (place_at m p))
        ∙ ap (λ (l : List ℕ). p ∷ l) (besides-same (free-at m') (free-at m) (without order p)
        (λ i e. let r = without-has order p i e in ap vacant (there i (o.inside i r.1) r.0))
        ∙ besides-without (free-at m) order p)

    -- they keep their senders
    same-senders : map (sender_at m') (without T p) ≡ map (sender_at m) (without T p)
    same-senders = map_same (sender_at m') (sender_at m) (without T p) (λ i e.
        let r = without-has T p i e in
        ap (λ (x : Place). x.sender) (there i (T-inside i r.1) r.0))

    -- and the sender's is p alone
    only-p : is_of k.sender (place_at m p) ≡ true → (i : ℕ) → has T i ≡ true → sender_at m i ≡ sender_at m p → i ≡ p
    only-p w i e q =
        o.whole.single k.sender i p (T-inside i e) p-inside
        (taken-of k.sender (place_at m i) (T-taken i e) (q ∙ of-sender k.sender (place_at m p) w)) w

    -- with no place free, it is the one furthest back
    full-place : ((j : ℕ) → j < senders_most → is_of k.sender (place_at m j) ≡ false) → ((j : ℕ) → j < senders_most → vacant (place_at m j) ≡ false) → p ≡ furthest_back m senders_most
    unfolding place_for_lem
    full-place a v = go (first (is_of k.sender) m) refl (first vacant m) refl
      where
        go : (x : Option ℕ) → first (is_of k.sender) m ≡ x → (y : Option ℕ) → first vacant m ≡ y → or_else x (or_else y (furthest_back m senders_most)) ≡ furthest_back m senders_most
        go (some i) e y f = let r : First (is_of k.sender) m i no_place = first_some (is_of k.sender) no_place m i e in never r.passes (a i (omega (arith, r.inside, o.whole.places)))
        go none e (some j) f = let r : First vacant m j no_place = first_some vacant no_place m j f in never r.passes (v j (omega (arith, r.inside, o.whole.places)))
        go none e none f = refl

    next-senders : map (sender_at m) (without T p) ≡ take (senders_most - 1) (without (latest h) k.sender)
    next-senders = go (seated m o.whole.places k.sender)
      where
        go : Seated m k.sender → map (sender_at m) (without T p) ≡ take (senders_most - 1) (without (latest h) k.sender)
        go (own w) =
            let t : has T p ≡ true = in-T p p-inside (of-taken k.sender (place_at m p) w) in
            let e : map (sender_at m) (without T p) ≡ without (latest h) k.sender =
            map-without (sender_at m) T p (only-p w) ∙ (λ j. without (o.senders j) (of-sender k.sender (place_at m p) w j)) in
            e ∙ sym (take_all (senders_most - 1) (without (latest h) k.sender)
            (omega (arith, ap length e, length-map (without T p) (sender_at m), without-less T p t, fits senders_most T T-apart T-inside)))
        go (free a v) =
            let t : has T p ≡ false = elim (either (has T p)) [ inl z ↦ never v (T-taken p z) | inr z ↦ z ] in
            ap (map (sender_at m)) (without-none T p t) ∙ o.senders
            ∙ sym (ap (take (senders_most - 1)) (without-none (latest h) k.sender (not-latest k.sender a))
            ∙ take_all (senders_most - 1) (latest h) (omega (arith, ap length o.senders, length-map T (sender_at m), room_for p p-inside T T-apart T-inside t)))
        go (full a v) =
            let same : T ≡ order = besides-all (free-at m) order (λ i e. v i (o.inside i e)) in
            let t : has order p ≡ true = in_order p p-inside (v p p-inside) in
            let all : senders_most ≤ length order = at_most senders_most (λ i. i) order (λ i b. in_order i b (v i b)) (λ i j x y e. e) in
            let sixteen : length order ≡ senders_most = omega (arith, fits senders_most order o.apart o.inside) in
            let q = at-index order (senders_most - 1) (omega arith) o.apart in
            let back : (place_at m p).turn ≤ (place_at m q.0).turn =
            rw (full-place a v) (furthest-low m senders_most q.0 (o.inside q.0 q.1)) in
            let behind : index_of order p ≡ senders_most - 1 = omega (arith, o.turns q.0 q.1, q.2, o.turns p t) in
            ap (λ (l : List ℕ). map (sender_at m) (without l p)) same
            ∙ without-last (sender_at m) order p (senders_most - 1) o.apart t behind sixteen
            ∙ ap (take (senders_most - 1)) (ap (map (sender_at m)) (sym same) ∙ o.senders ∙ sym (without-none (latest h) k.sender (not-latest k.sender a)))

    -- its own keys: one more, or the first
    next-holds : Holds (sequences_of k.sender (delivery k ∷ h)) (with_key k (place_at m p))
    unfolding sequences_of
    next-holds = rw (eq-eqb k.sender k.sender refl) (go (seated m o.whole.places k.sender))
      where
        anew : ((j : ℕ) → j < senders_most → is_of k.sender (place_at m j) ≡ false)
            → Holds (k.sequence ∷ pick (has (latest h) k.sender) (sequences_of k.sender h) []) (with_key k (place_at m p))
        anew a = rw (not-latest k.sender a) (holds-first (place_at m p) k (a p p-inside) (o.whole.long p p-inside))

        go : Seated m k.sender → Holds (k.sequence ∷ pick (has (latest h) k.sender) (sequences_of k.sender h) []) (with_key k (place_at m p))
        go (own w) = rw (is-latest k.sender p p-inside w) (holds-own (sequences_of k.sender h) (place_at m p) k w (o.holds k.sender p p-inside w))
        go (free a v) = anew a
        go (full a v) = anew a

    -- those of the others stay
    others-hold : (s j : ℕ) → j < senders_most → j ≢ p → is_of s (place_at m' j) ≡ true → Holds (sequences_of s (delivery k ∷ h)) (place_at m' j)
    unfolding sequences_of
    others-hold s j b n e =
        let e' : is_of s (place_at m j) ≡ true = rw (there j b n) at e in
        let d : k.sender ≢ s = λ z. n (sym (own-place m o.whole k.sender j b (subst (λ (x : ℕ). is_of x (place_at m j) ≡ true) (sym z) e'))) in
        let was : Holds (sequences_of s h) (place_at m j) = o.holds s j b e' in
        rw (there j b n, ne_eqb k.sender s d) (record { shown = was.shown; filled = was.filled; room = was.room })

    delivered : Ordered (delivery k ∷ h) m' order'
    unfolding latest
    delivered = record {
      whole = remember-whole m k o.whole;
      apart = (without_gone order p, without-apart order p o.apart);
      inside = λ i e. either_way i e (λ (x : ℕ). x < senders_most) p-inside (λ j n t. o.inside j t);
      turns = λ i e. either_way i e (λ (x : ℕ). (place_at m' x).turn + index_of order' x ≡ senders_most - 1)
          (rw (here, key-turn k (place_at m p), eq-eqb p p refl)) next-turns;
      rest = λ i b e.
          let n : i ≢ p = λ z. never (eq-eqb p i (sym z)) (or_l (eqb p i) (has (without order p) i) e) in
          let t : has order i ≡ false = elim (either (has order i)) [
            | inl y ↦ never (without_other order p i n y) (or_r (eqb p i) (has (without order p) i) e)
            | inr y ↦ y
          ] in
          let r = o.rest i b t in
          rw (there i b n) (r.0, rw (r.1, le-ltb (place_at m p).turn 0 zero-le));
      senders =
          ap (map (sender_at m')) next-taken
          ∙ (λ j. (ap (λ (x : Place). x.sender) here ∙ key-sender k (place_at m p)) j ∷ (same-senders ∙ next-senders) j);
      holds = λ s j b e. elim (ℕ_discrete j p) [
        | yes q ↦
            let e' : is_of s (with_key k (place_at m p)) ≡ true = rw (q, here) at e in
            let z : k.sender ≡ s = sym (key-sender k (place_at m p)) ∙ of-sender s (with_key k (place_at m p)) e' in
            rw (q, here) (subst (λ (x : ℕ). Holds (sequences_of x (delivery k ∷ h)) (with_key k (place_at m p))) z next-holds)
        | no q ↦ others-hold s j b q e
      ];
    }

  -- ---- a sender is forgotten

  module _ (x : ℕ) where
    abbrev less : Memory
    less = forget_keys m x

    then_at : (i : ℕ) → i < senders_most → place_at less i ≡ freed x (place_at m i)
    then_at i b = forget-at m x i (omega (arith, o.whole.places))

    still-free : (q : Place) → vacant q ≡ true → vacant (freed x q) ≡ true
    still-free q e = pick_all (λ (n : ℕ). eqb n 0 ≡ true) (eqb q.sender x) (λ z. refl) (λ z. e)

    now-free : (q : Place) → eqb q.sender x ≡ true → vacant (freed x q) ≡ true
    now-free q e = ap (λ (b : Bool). eqb (pick b 0 q.used) 0) e

    less-senders : (l : List ℕ) → ((i : ℕ) → has l i ≡ true → i < senders_most) → map (sender_at less) (taken_of less l) ≡ without (map (sender_at m) (taken_of m l)) x
    less-senders [] b = refl
    less-senders (i ∷ l) b = go (less-senders l (λ j e. b j (or-of-right (eqb i j) e))) (free-at m i) refl (eqb (sender_at m i) x) refl
      where
        at : place_at less i ≡ freed x (place_at m i)
        at = then_at i (b i (or_yes (eqb i i) (has l i) (eq-eqb i i refl)))

        more : List ℕ
        more = map (sender_at m) (taken_of m l)

        turned : (c : Bool) → free-at less i ≡ c → map (sender_at less) (taken_of less (i ∷ l)) ≡ map (sender_at less) (pick c (taken_of less l) (i ∷ taken_of less l))
        turned c e = ap (λ (a : Bool). map (sender_at less) (pick a (taken_of less l) (i ∷ taken_of less l))) e

        go : map (sender_at less) (taken_of less l) ≡ without (map (sender_at m) (taken_of m l)) x → (a : Bool) → free-at m i ≡ a → (c : Bool) → eqb (sender_at m i) x ≡ c
            → map (sender_at less) (taken_of less (i ∷ l)) ≡ without (map (sender_at m) (pick a (taken_of m l) (i ∷ taken_of m l))) x
        go ih true v c e = turned true (ap vacant at ∙ still-free (place_at m i) v) ∙ ih
        go ih false v true e =
            turned true (ap vacant at ∙ now-free (place_at m i) e) ∙ ih
            ∙ sym (ap (λ (a : Bool). pick a (without (map (sender_at m) (taken_of m l)) x) (sender_at m i ∷ without (map (sender_at m) (taken_of m l)) x)) e)
        go ih false v false e =
            turned false (ap vacant (at ∙ freed-same x (place_at m i) e) ∙ v)
            ∙ (λ j. ap (λ (q : Place). q.sender) at j ∷ ih j)
            ∙ sym (ap (λ (a : Bool). pick a (without (map (sender_at m) (taken_of m l)) x) (sender_at m i ∷ without (map (sender_at m) (taken_of m l)) x)) e)

    less-holds : (s j : ℕ) → j < senders_most → is_of s (place_at less j) ≡ true → Holds (sequences_of s (forgetting x ∷ h)) (place_at less j)
    unfolding sequences_of
    less-holds s j b e =
        let e₁ : is_of s (freed x (place_at m j)) ≡ true = rw (then_at j b) at e in
        let n : s ≢ x = λ z. never e₁ (subst (λ (y : ℕ). is_of y (freed x (place_at m j)) ≡ false) (sym z) (freed-own x (place_at m j))) in
        let e₂ : is_of s (place_at m j) ≡ true = sym (freed-other x s n (place_at m j)) ∙ e₁ in
        let d : eqb (place_at m j).sender x ≡ false = ne_eqb (place_at m j).sender x (λ z. n (sym (of-sender s (place_at m j) e₂) ∙ z)) in
        rw (ne_eqb x s (λ z. n (sym z))) (subst (Holds (sequences_of s h)) (sym (then_at j b ∙ freed-same x (place_at m j) d)) (o.holds s j b e₂))

    forgotten : Ordered (forgetting x ∷ h) less order
    unfolding latest
    forgotten = record {
      whole = forget-whole m x o.whole;
      apart = o.apart;
      inside = o.inside;
      turns = λ i e. rw (then_at i (o.inside i e)) (o.turns i e);
      rest = λ i b e. let r = o.rest i b e in rw (then_at i b) (still-free (place_at m i) r.0, r.1);
      senders = less-senders order o.inside ∙ ap (λ (l : List ℕ). without l x) o.senders;
      holds = less-holds;
    }

-- ---- after any of these

-- the places, by the delivery that came to them last
abbrev places_of : List Deed → List ℕ
places_of [] = []
places_of (delivery k ∷ h) = place_for_lem (memory_after h) k.sender ∷ without (places_of h) (place_for_lem (memory_after h) k.sender)
places_of (forgetting x ∷ h) = places_of h

ordered : (h : List Deed) → Ordered h (memory_after h) (places_of h)
unfolding memory_after latest
ordered [] = record {
  whole = empty-whole;
  apart = tt;
  inside = λ i e. never e refl;
  turns = λ i e. never e refl;
  rest = λ i b e. empty-rest i b;
  senders = refl;
  holds = λ s j b e. never e (vacant-of s (place_at empty_memory j) (empty-vacant j b));
}
ordered (delivery k ∷ h) = delivered h (memory_after h) (places_of h) (ordered h) k
ordered (forgetting x ∷ h) = forgotten h (memory_after h) (places_of h) (ordered h) x

module _ (h : List Deed) where
  abbrev after : Memory
  after = memory_after h

  its : Ordered h after (places_of h)
  its = ordered h

  nowhere : (s : ℕ) → first (is_of s) after ≡ none → (j : ℕ) → j < senders_most → is_of s (place_at after j) ≡ false
  nowhere s e j b = first-none (is_of s) no_place after e j (omega (arith, its.whole.places))

  somewhere : (s j : ℕ) → first (is_of s) after ≡ some j → (j < senders_most) × (is_of s (place_at after j) ≡ true)
  somewhere s j e = let r : First (is_of s) after j no_place = first_some (is_of s) no_place after j e in (omega (arith, r.inside, its.whole.places), r.passes)

  -- THE SENDERS THAT ARE REMEMBERED are those of the latest deliveries
  pub known-latest : (s : ℕ) → is_known_lem (memory_after h) s ≡ has (latest h) s
  unfolding is_known_lem
  known-latest s = go (first (is_of s) after) refl
    where
      go : (x : Option ℕ) → first (is_of s) after ≡ x → is_there (first (is_of s) after) ≡ has (latest h) s
      go none e = ap is_there e ∙ sym (not-latest h after (places_of h) its s (nowhere s e))
      go (some j) e = let r = somewhere s j e in ap is_there e ∙ sym (is-latest h after (places_of h) its s j r.0 r.1)

  -- THE KEYS THAT ARE REMEMBERED
  pub recalled_exactly : (k : Key) → is_remembered_lem (memory_after h) k ≡ among_last h k
  recalled_exactly k = go (first (is_of k.sender) after) refl
    where
      last : Bool
      last = has (take keys_each (sequences_of k.sender h)) k.sequence

      go : (x : Option ℕ) → first (is_of k.sender) after ≡ x → is_remembered_lem after k ≡ (has (latest h) k.sender && has (take keys_each (sequences_of k.sender h)) k.sequence)
      go none e = not_found after k e ∙ sym (ap (λ (b : Bool). b && last) (not-latest h after (places_of h) its k.sender (nowhere k.sender e)))
      go (some j) e =
          let r = somewhere k.sender j e in
          found after its.whole k j r.0 r.1
          ∙ ap (λ (l : List ℕ). has l k.sequence) (its.holds k.sender j r.0 r.1).shown
          ∙ has-reverse (take keys_each (sequences_of k.sender h)) k.sequence
          ∙ sym (ap (λ (b : Bool). b && last) (is-latest h after (places_of h) its k.sender j r.0 r.1))

-- ---- deliveries alone, of at most 16 senders: nobody is dropped

abbrev given : List Key → List Deed
given ks = map delivery ks

all-given : (ks : List Key) → memory_after (given ks) ≡ remember_all ks
unfolding memory_after remember_all
all-given [] = refl
all-given (k ∷ ks) = ap (λ (m : Memory). remember m k) (all-given ks)

-- at most as many different numbers as the list has that they stand in
no_more : (l senders : List ℕ) → Apart l → ((x : ℕ) → has l x ≡ true → has senders x ≡ true) → length l ≤ length senders
no_more [] senders a h = zero-le
no_more (y ∷ l) senders a h =
    let r : length l ≤ length (without senders y) = no_more l (without senders y) a.1 (λ x e.
    without_other senders y x (λ q. never e (subst (λ (z : ℕ). has l z ≡ false) (sym q) a.0)) (h x (or-of-right (eqb y x) e))) in
    omega (arith, without-less senders y (h y (or_yes (eqb y y) (has l y) (eq-eqb y y refl))))

record Undropped (senders : List ℕ) (ks : List Key) : Type 0 where
  apart : Apart (latest (given ks))
  of_them : (x : ℕ) → has (latest (given ks)) x ≡ true → has senders x ≡ true
  every : (k : Key) → among ks k ≡ true → has (latest (given ks)) k.sender ≡ true

undropped : (senders : List ℕ) → length senders ≤ senders_most → (ks : List Key) → ((k : Key) → among ks k ≡ true → has senders k.sender ≡ true) → Undropped senders ks
unfolding latest among
undropped senders few [] all = record { apart = tt; of_them = λ x e. never e refl; every = λ k e. never e refl }
undropped senders few (k ∷ ks) all =
    let u : Undropped senders ks = undropped senders few ks (λ x e. all x (or-of-right (same_key k x) e)) in
    let before : List ℕ = latest (given ks) in
    let now : List ℕ = k.sender ∷ without (latest (given ks)) k.sender in
    let apart' : Apart (k.sender ∷ without (latest (given ks)) k.sender) = (without_gone (latest (given ks)) k.sender, without-apart (latest (given ks)) k.sender u.apart) in
    let them : (x : ℕ) → has (k.sender ∷ without (latest (given ks)) k.sender) x ≡ true → has senders x ≡ true = λ x e. elim (either (eqb k.sender x)) [
      | inl t ↦ subst (λ (y : ℕ). has senders y ≡ true) (eqb-true k.sender x t) (all k (or_yes (same_key k k) (among ks k) (key-same k)))
      | inr t ↦ u.of_them x (without-has (latest (given ks)) k.sender x (sym (or-not (eqb k.sender x) _ t) ∙ e)).1
    ] in
    let e : take senders_most (k.sender ∷ without (latest (given ks)) k.sender) ≡ k.sender ∷ without (latest (given ks)) k.sender =
    take_all senders_most (k.sender ∷ without (latest (given ks)) k.sender) (omega (arith, no_more (k.sender ∷ without (latest (given ks)) k.sender) senders apart' them)) in
    record {
      apart = subst Apart (sym e) apart';
      of_them = λ x q. them x (subst (λ (l : List ℕ). has l x ≡ true) e q);
      every = λ x q. subst (λ (l : List ℕ). has l x.sender ≡ true) (sym e) (elim (ℕ_discrete k.sender x.sender) [
        | yes t ↦ or_yes (eqb k.sender x.sender) _ (eq-eqb k.sender x.sender t)
        | no t ↦
            let other : same_key k x ≡ false = rw (ne_eqb k.sender x.sender t) in
            or-of-right (eqb k.sender x.sender) (without_other (latest (given ks)) k.sender x.sender (λ z. t (sym z)) (u.every x (sym (or-not (same_key k x) (among ks x) other) ∙ q)))
      ]);
    }

-- a key that was delivered lately is among its sender's last
of-its-sender : (senders : List ℕ) → length senders ≤ senders_most → (ks : List Key) → ((k : Key) → among ks k ≡ true → has senders k.sender ≡ true)
    → (k : Key) (n : ℕ) → among ks k ≡ true → since ks k < n → has (take n (sequences_of k.sender (given ks))) k.sequence ≡ true
unfolding among since sequences_of
of-its-sender senders few [] all k n e h = never e refl
of-its-sender senders few (x ∷ ks) all k zero e h = absurd (not-suc-le-zero h)
of-its-sender senders few (x ∷ ks) all k (suc n) e h = elim (ℕ_discrete x.sender k.sender) [
  | yes p ↦ rw (eq-eqb x.sender k.sender p) (go (of-its-sender senders few ks earlier k n) (eqb x.sequence k.sequence)
      (rw (eq-eqb x.sender k.sender p) at e) (rw (eq-eqb x.sender k.sender p) at h))
  | no p ↦
      let z : 0 + since ks k < suc n = rw (ne_eqb x.sender k.sender p) at h in
      rw (ne_eqb x.sender k.sender p) (of-its-sender senders few ks earlier k (suc n) (rw (ne_eqb x.sender k.sender p) at e) (omega arith))
]
  where
    earlier : (y : Key) → among ks y ≡ true → has senders y.sender ≡ true
    earlier y q = all y (or-of-right (same_key x y) q)

    go : (among ks k ≡ true → since ks k < n → has (take n (sequences_of k.sender (given ks))) k.sequence ≡ true)
        → (t : Bool) → (t || among ks k) ≡ true → pick t 0 (1 + since ks k) < suc n
        → (t || has (take n (pick (has (latest (given ks)) k.sender) (sequences_of k.sender (given ks)) [])) k.sequence) ≡ true
    go ih true u v = refl
    go ih false u v =
        let z : 1 + since ks k < suc n = v in
        subst (λ (b : Bool). has (take n (pick b (sequences_of k.sender (given ks)) [])) k.sequence ≡ true)
        (sym ((undropped senders few ks earlier).every k u)) (ih u (omega arith))

-- 32 others of its sender have not been delivered since, nor keys of a 17th sender
pub record Recent (ks : List Key) (k : Key) : Type 0 where
  pub lately : Lately ks k
  pub few : FewSenders ks

-- such a key is remembered
pub recalled : (ks : List Key) (k : Key) → among ks k ≡ true → Recent ks k → is_remembered_lem (remember_all ks) k ≡ true
recalled ks k e h =
    let u : Undropped h.few.senders ks = undropped h.few.senders h.few.few ks h.few.all in
    ap (λ (m : Memory). is_remembered_lem m k) (sym (all-given ks))
    ∙ recalled_exactly (given ks) k
    ∙ and-of (has (latest (given ks)) k.sender) _ (u.every k e) (of-its-sender h.few.senders h.few.few ks h.few.all k keys_each e h.lately)
