-- Laws of the memory of keys. Nothing else opens its definitions: another memory shows these laws again.
use Rattle.wire.proofs.Basics.{◌∙◌, sym, ◌≡◌, ap, refl, ℕ, ◌≤◌, ◌<◌, ◌-◌, suc, zero, zero-le, List, [], ◌∷◌, ◌++◌, map, true, false, Bool, ◌||◌, not, inl, inr, ◌≢◌, some, none, Option, length, drop}
use Rattle.wire.proofs.Basics.{get_or, take, length-append, length-drop, set, length-set, length-take, length-map, get_or-replicate, take_all, get_or-set_other, take-suc, get_or-set_same, eqb, ltb, leb, lit≤}
use Rattle.wire.proofs.Basics.{eq-eqb, le-ltb, ne_eqb, lt-ltb, eqb-true, le-leb, not-suc-le-zero, le_refl, le_of_suc-le-suc, ℕ_discrete, dec_le, arith}
use mathlib.Core.Bool.{or_assoc, or-false, or_comm}
use mathlib.Core.List.{reverse, reverse-cons, reverse-append}
use lib.Seq.{take-suc-set}
use Rattle.wire.specs.Choice.{pick}
use Rattle.wire.proofs.Choices.{either, never, and_l, and_r, or_l, or_r, pick_all, and-false}
use Rattle.steps.specs.Limits.{senders_most, keys_each}
use Rattle.steps.specs.Search.{first}
use Rattle.steps.specs.Memory.{Key, same_key, among, Place, no_place, vacant, is_of, remembered, has, Memory, empty_memory, place_at, kept_at, is_remembered_lem, furthest_back, or_else, place_for_lem, count_of, with_key, sunk, remember, freed, forget_keys, memory_ok, remember_all, without}
use Rattle.steps.proofs.Tables.{or-not, or-none, not-true, all_of, First, first_some, first-none}

-- ---- keys

pub key-eq : (a b : Key) → a.sender ≡ b.sender → a.sequence ≡ b.sequence → a ≡ b
key-eq a b p q = λ i. record { sender = p i; sequence = q i }

pub same_key_lem : (a b : Key) → same_key a b ≡ true → a ≡ b
same_key_lem a b e =
    key-eq a b
    (eqb-true a.sender b.sender (and_l (eqb a.sender b.sender) (eqb a.sequence b.sequence) e))
    (eqb-true a.sequence b.sequence (and_r (eqb a.sender b.sender) (eqb a.sequence b.sequence) e))

pub key-same : (a : Key) → same_key a a ≡ true
key-same a = rw (eq-eqb a.sender a.sender refl, eq-eqb a.sequence a.sequence refl)

-- another key of the same sender has another sequence
other-sequence : (a b : Key) → same_key a b ≡ false → a.sender ≡ b.sender → eqb a.sequence b.sequence ≡ false
other-sequence a b e p = rw (eq-eqb a.sender b.sender p) at e

-- ---- numbers among others

has-append : (a b : List ℕ) (q : ℕ) → has (a ++ b) q ≡ (has a q || has b q)
has-append [] b q = refl
has-append (x ∷ a) b q = ap (λ (t : Bool). eqb x q || t) (has-append a b q) ∙ sym (or_assoc (eqb x q) (has a q) (has b q))

pub has-reverse : (a : List ℕ) (q : ℕ) → has (reverse a) q ≡ has a q
has-reverse [] q = refl
has-reverse (x ∷ a) q =
    ap (λ (l : List ℕ). has l q) (reverse-cons x a)
    ∙ has-append (reverse a) (x ∷ []) q
    ∙ ap (λ (t : Bool). t || (eqb x q || false)) (has-reverse a q)
    ∙ ap (λ (t : Bool). has a q || t) (or-false (eqb x q))
    ∙ or_comm (has a q) (eqb x q)

has-take : (n : ℕ) (a : List ℕ) (q : ℕ) → has a q ≡ false → has (take n a) q ≡ false
has-take zero a q e = refl
has-take (suc n) [] q e = refl
has-take (suc n) (x ∷ a) q e = go (eqb x q) e (has-take n a q)
  where
    go : (t : Bool) → (t || has a q) ≡ false → (has a q ≡ false → has (take n a) q ≡ false) → (t || has (take n a) q) ≡ false
    go true u v = u
    go false u v = v u

-- ---- at most as many different numbers as the list has that they stand in

pub without-short : (l : List ℕ) (x : ℕ) → length (without l x) ≤ length l
without-short [] x = le_refl 0
without-short (y ∷ l) x = go (eqb y x) (without-short l x)
  where
    go : (b : Bool) → length (without l x) ≤ length l → length (pick b (without l x) (y ∷ without l x)) ≤ suc (length l)
    go true h = omega arith
    go false h = omega arith

pub without-less : (l : List ℕ) (x : ℕ) → has l x ≡ true → length (without l x) < length l
without-less [] x e = never e refl
without-less (y ∷ l) x e = go (eqb y x) e (without-short l x) (without-less l x)
  where
    go : (b : Bool) → (b || has l x) ≡ true → length (without l x) ≤ length l → (has l x ≡ true → length (without l x) < length l)
        → length (pick b (without l x) (y ∷ without l x)) < suc (length l)
    go true q h r = omega arith
    go false q h r = let z : length (without l x) < length l = r q in omega arith

pub without_other : (l : List ℕ) (x z : ℕ) → z ≢ x → has l z ≡ true → has (without l x) z ≡ true
without_other [] x z n e = e
without_other (y ∷ l) x z n e = elim (ℕ_discrete y x) [
  | yes q ↦
      let d : eqb y z ≡ false = ne_eqb y z (λ p. n (sym p ∙ q)) in
      rw (eq-eqb y x q) (without_other l x z n (sym (or-not (eqb y z) (has l z) d) ∙ e))
  | no q ↦ rw (ne_eqb y x q) (go (eqb y z) e (without_other l x z n))
]
  where
    go : (t : Bool) → (t || has l z) ≡ true → (has l z ≡ true → has (without l x) z ≡ true) → (t || has (without l x) z) ≡ true
    go true u v = refl
    go false u v = v u

pub at_most : (n : ℕ) (f : ℕ → ℕ) (l : List ℕ) → ((i : ℕ) → i < n → has l (f i) ≡ true) → ((i j : ℕ) → i < n → j < n → f i ≡ f j → i ≡ j) → n ≤ length l
at_most zero f l h d = zero-le
at_most (suc n) f l h d =
    let r : n ≤ length (without l (f n)) = at_most n f (without l (f n))
    (λ i b. without_other l (f n) (f i) (λ e. let z : i ≡ n = d i n (omega arith) (omega arith) e in omega arith) (h i (omega arith)))
    (λ i j a b e. d i j (omega arith) (omega arith) e) in
    omega (arith, without-less l (f n) (h n (omega arith)))

-- ---- places

pub of-sender : (s : ℕ) (p : Place) → is_of s p ≡ true → p.sender ≡ s
of-sender s p e = eqb-true p.sender s (and_r (not (vacant p)) (eqb p.sender s) e)

pub vacant-of : (s : ℕ) (p : Place) → vacant p ≡ true → is_of s p ≡ false
vacant-of s p e = rw e

pub taken-of : (s : ℕ) (p : Place) → vacant p ≡ false → p.sender ≡ s → is_of s p ≡ true
taken-of s p e q = rw (e, eq-eqb p.sender s q)

pub of-taken : (s : ℕ) (p : Place) → is_of s p ≡ true → vacant p ≡ false
of-taken s p e = not-true (vacant p) (and_l (not (vacant p)) (eqb p.sender s) e)

get_d_map : (f : Place → Place) (l : List Place) (i : ℕ) → i < length l → place_at (map f l) i ≡ f (place_at l i)
get_d_map f [] i h = absurd (not-suc-le-zero h)
get_d_map f (x ∷ l) zero h = refl
get_d_map f (x ∷ l) (suc i) h = get_d_map f l i (le_of_suc-le-suc h)

-- the only element that passes is the first
first-only : (p : Place → Bool) (l : List Place) (j : ℕ) → j < length l → p (place_at l j) ≡ true
    → ((i : ℕ) → i < length l → p (place_at l i) ≡ true → i ≡ j) → first p l ≡ some j
first-only p l j h e u = go (first p l) refl
  where
    go : (o : Option ℕ) → first p l ≡ o → first p l ≡ some j
    go none q = never e (first-none p no_place l q j h)
    go (some i) q =
        let r : First p l i no_place = first_some p no_place l i q in
        q ∙ ap some (u i r.inside r.passes)

furthest-inside : (m : Memory) (n : ℕ) → furthest_back m (suc n) ≤ n
furthest-inside m zero = go (ltb (place_at m 0).turn (place_at m 0).turn)
  where
    go : (b : Bool) → pick b 0 0 ≤ 0
    go true = le_refl 0
    go false = le_refl 0
furthest-inside m (suc n) = go (ltb (place_at m (suc n)).turn (place_at m (furthest_back m (suc n))).turn) (furthest-inside m n)
  where
    go : (b : Bool) → furthest_back m (suc n) ≤ n → pick b (suc n) (furthest_back m (suc n)) ≤ suc n
    go true h = le_refl (suc n)
    go false h = omega arith

-- ---- any memory that calls can reach

pub record Whole (m : Memory) : Type 0 where
  pub places : length m ≡ senders_most
  pub bounded : (i : ℕ) → i < senders_most → (place_at m i).used ≤ keys_each
  pub long : (i : ℕ) → i < senders_most → length (place_at m i).sequences ≡ keys_each
  -- no sender has two places
  pub single : (s i j : ℕ) → i < senders_most → j < senders_most → is_of s (place_at m i) ≡ true → is_of s (place_at m j) ≡ true → i ≡ j

pub whole-ok : (m : Memory) → Whole m → memory_ok m ≡ true
unfolding memory_ok
whole-ok m w = rw w.places (all_of senders_most (λ i. leb (place_at m i).used keys_each) (λ i b. le-leb (place_at m i).used keys_each (w.bounded i b)))

pub empty-whole : Whole empty_memory
unfolding empty_memory
empty-whole = record {
  places = refl;
  bounded = λ i b. rw (get_or-replicate senders_most i no_place no_place b) zero-le;
  long = λ i b. rw (get_or-replicate senders_most i no_place no_place b);
  single = λ s i j a b p q. never p (ap (is_of s) (get_or-replicate senders_most i no_place no_place a));
}

-- which place a delivery gets: the sender's own; or it has none, and the place is free, or none is
pub data Seated (m : Memory) (s : ℕ) : Type 0 where
  own : is_of s (place_at m (place_for_lem m s)) ≡ true → Seated m s
  free : ((j : ℕ) → j < senders_most → is_of s (place_at m j) ≡ false) → vacant (place_at m (place_for_lem m s)) ≡ true → Seated m s
  full : ((j : ℕ) → j < senders_most → is_of s (place_at m j) ≡ false) → ((j : ℕ) → j < senders_most → vacant (place_at m j) ≡ false) → Seated m s

module _ (m : Memory) (l : length m ≡ senders_most) (s : ℕ) where
  pub seated : Seated m s
  unfolding place_for_lem
  seated = go (first (is_of s) m) refl (first vacant m) refl
    where
      go : (o : Option ℕ) → first (is_of s) m ≡ o → (v : Option ℕ) → first vacant m ≡ v → Seated m s
      go (some i) e v f = own (rw e (first_some (is_of s) no_place m i e).passes)
      go none e (some j) f = free (λ j b. first-none (is_of s) no_place m e j (omega arith)) (rw (e, f) (first_some vacant no_place m j f).passes)
      go none e none f = full (λ j b. first-none (is_of s) no_place m e j (omega arith)) (λ j b. first-none vacant no_place m f j (omega arith))

  pub place_inside : place_for_lem m s < senders_most
  unfolding place_for_lem
  place_inside = go (first (is_of s) m) refl (first vacant m) refl
    where
      go : (o : Option ℕ) → first (is_of s) m ≡ o → (v : Option ℕ) → first vacant m ≡ v → or_else o (or_else v (furthest_back m senders_most)) < senders_most
      go (some i) e v f = omega (arith, (first_some (is_of s) no_place m i e).inside)
      go none e (some j) f = omega (arith, (first_some vacant no_place m j f).inside)
      go none e none f = omega (arith, furthest-inside m (senders_most - 1))

module _ (m : Memory) (w : Whole m) where
  -- the sender's own place is the one that is found
  own_first : (s j : ℕ) → j < senders_most → is_of s (place_at m j) ≡ true → first (is_of s) m ≡ some j
  own_first s j b e = first-only (is_of s) m j (omega (arith, w.places)) e (λ i a p. w.single s i j (omega (arith, w.places)) b p e)

  pub own-place : (s j : ℕ) → j < senders_most → is_of s (place_at m j) ≡ true → place_for_lem m s ≡ j
  unfolding place_for_lem
  own-place s j b e = rw (own_first s j b e)

  pub found : (k : Key) (j : ℕ) → j < senders_most → is_of k.sender (place_at m j) ≡ true → is_remembered_lem m k ≡ has (remembered (place_at m j)) k.sequence
  unfolding is_remembered_lem
  found k j b e = rw (own_first k.sender j b e)

-- where no place is the sender's, nothing is remembered of it
pub not_found : (m : Memory) (k : Key) → first (is_of k.sender) m ≡ none → is_remembered_lem m k ≡ false
unfolding is_remembered_lem
not_found m k e = rw e

-- ---- a place after a delivery

module _ (m : Memory) (l : length m ≡ senders_most) (k : Key) where
  abbrev at : ℕ
  at = place_for_lem m k.sender

  abbrev t : ℕ
  t = (place_at m at).turn

  pub after-long : length (remember m k) ≡ senders_most
  unfolding remember
  after-long = length-set (map (sunk t) m) at (with_key k (place_at m at)) ∙ length-map m (sunk t) ∙ l

  pub after-here : place_at (remember m k) at ≡ with_key k (place_at m at)
  unfolding remember
  after-here = get_or-set_same (map (sunk t) m) at (with_key k (place_at m at)) no_place (omega (arith, length-map m (sunk t), place_inside m l k.sender))

  pub after-other : (j : ℕ) → j < senders_most → j ≢ at → place_at (remember m k) j ≡ sunk t (place_at m j)
  unfolding remember
  after-other j b n = get_or-set_other (map (sunk t) m) at j (with_key k (place_at m at)) no_place n ∙ get_d_map (sunk t) m j (omega arith)

count-bounded : (s : ℕ) (p : Place) → p.used ≤ keys_each → count_of s p ≤ keys_each
count-bounded s p h = pick_all (λ (n : ℕ). n ≤ keys_each) (is_of s p) (λ e. h) (λ e. zero-le)

module _ (k : Key) (p : Place) where
  abbrev its : ℕ
  its = count_of k.sender p

  key-bounded : p.used ≤ keys_each → (with_key k p).used ≤ keys_each
  unfolding with_key
  key-bounded h = elim (dec_le (suc its) keys_each) [
    | yes b ↦ rw (lt-ltb its keys_each b) b
    | no b ↦ rw (le-ltb its keys_each (omega arith)) (count-bounded k.sender p h)
  ]

  key-long : length p.sequences ≡ keys_each → length (with_key k p).sequences ≡ keys_each
  unfolding with_key
  key-long e = elim (dec_le (suc its) keys_each) [
    | yes b ↦ rw (lt-ltb its keys_each b) (length-set p.sequences its k.sequence ∙ e)
    | no b ↦ rw (le-ltb its keys_each (omega arith)) (omega (arith, length-append (drop 1 p.sequences) (k.sequence ∷ []), length-drop 1 p.sequences))
  ]

  pub key-taken : vacant (with_key k p) ≡ false
  unfolding with_key
  key-taken = elim (dec_le (suc its) keys_each) [
    | yes b ↦ rw (lt-ltb its keys_each b) (ne_eqb (suc its) 0 (λ z. omega arith))
    | no b ↦ rw (le-ltb its keys_each (omega arith)) (ne_eqb its 0 (λ z. omega arith))
  ]

  pub key-sender : (with_key k p).sender ≡ k.sender
  unfolding with_key
  key-sender = refl

  key-own : is_of k.sender (with_key k p) ≡ true
  key-own = rw (key-taken, key-sender) (eq-eqb k.sender k.sender refl)

pub remember-whole : (m : Memory) (k : Key) → Whole m → Whole (remember m k)
remember-whole m k w = record {
  places = after-long m w.places k;
  bounded = λ j b. elim (ℕ_discrete j i) [
    | yes e ↦ rw (e, here) (key-bounded k (place_at m i) (w.bounded i inside))
    | no e ↦ rw (after-other m w.places k j b e) (w.bounded j b)
  ];
  long = λ j b. elim (ℕ_discrete j i) [
    | yes e ↦ rw (e, here) (key-long k (place_at m i) (w.long i inside))
    | no e ↦ rw (after-other m w.places k j b e) (w.long j b)
  ];
  single = λ s a b p q x y. elim (ℕ_discrete a i) [
    | yes e ↦ elim (ℕ_discrete b i) [
      | yes f ↦ e ∙ sym f
      | no f ↦ e ∙ mine s b q (rw (e, here) at x) (rw (after-other m w.places k b q f) at y)
    ]
    | no e ↦ elim (ℕ_discrete b i) [
      | yes f ↦ sym (f ∙ mine s a p (rw (f, here) at y) (rw (after-other m w.places k a p e) at x))
      | no f ↦ w.single s a b p q (rw (after-other m w.places k a p e) at x) (rw (after-other m w.places k b q f) at y)
    ]
  ];
}
  where
    i : ℕ
    i = place_for_lem m k.sender

    inside : i < senders_most
    inside = place_inside m w.places k.sender

    here : place_at (remember m k) i ≡ with_key k (place_at m i)
    here = after-here m w.places k

    -- a place that is of the latest's sender too is the latest's
    mine : (s j : ℕ) → j < senders_most → is_of s (with_key k (place_at m i)) ≡ true → is_of s (place_at m j) ≡ true → i ≡ j
    mine s j b x y =
        let z : k.sender ≡ s = sym (key-sender k (place_at m i)) ∙ of-sender s (with_key k (place_at m i)) x in
        own-place m w k.sender j b (rw z y)

-- ---- a key is not remembered for another's delivery

has-set : (l : List ℕ) (n x q : ℕ) → eqb x q ≡ false → has (take n l) q ≡ false → has (take (suc n) (set l n x)) q ≡ false
has-set [] n x q p e = refl
has-set (y ∷ l) zero x q p e = or-none (eqb x q) false p refl
has-set (y ∷ l) (suc n) x q p e = go (eqb y q) e (has-set l n x q p)
  where
    go : (t : Bool) → (t || has (take n l) q) ≡ false → (has (take n l) q ≡ false → has (take (suc n) (set l n x)) q ≡ false) → (t || has (take (suc n) (set l n x)) q) ≡ false
    go true u v = u
    go false u v = v u

has-tail : (l : List ℕ) (q : ℕ) → has l q ≡ false → has (drop 1 l) q ≡ false
has-tail [] q e = refl
has-tail (x ∷ l) q e = or_r (eqb x q) (has l q) e

key-other : (x : Key) (p : Place) (q : ℕ) → length p.sequences ≡ keys_each → eqb x.sequence q ≡ false → has (take (count_of x.sender p) p.sequences) q ≡ false
    → has (remembered (with_key x p)) q ≡ false
unfolding with_key
key-other x p q l d e = elim (dec_le (suc (count_of x.sender p)) keys_each) [
  | yes h ↦ rw (lt-ltb (count_of x.sender p) keys_each h) (has-set p.sequences (count_of x.sender p) x.sequence q d e)
  | no h ↦
      let all : take (count_of x.sender p) p.sequences ≡ p.sequences = take_all (count_of x.sender p) p.sequences (omega arith) in
      rw (le-ltb (count_of x.sender p) keys_each (omega arith)) (has-take (count_of x.sender p) (drop 1 p.sequences ++ (x.sequence ∷ [])) q
      (has-append (drop 1 p.sequences) (x.sequence ∷ []) q ∙ or-none (has (drop 1 p.sequences) q) (eqb x.sequence q || false)
      (has-tail p.sequences q (rw all at e)) (or-none (eqb x.sequence q) false d refl)))
]

-- what counts of a sender at a place that is its own, or another's
count-own : (s : ℕ) (p : Place) → is_of s p ≡ true → count_of s p ≡ p.used
count-own s p e = rw e

count_none : (s : ℕ) (p : Place) → is_of s p ≡ false → count_of s p ≡ 0
count_none s p e = rw e

pub remember-other : (m : Memory) (x k : Key) → Whole m → same_key x k ≡ false → is_remembered_lem m k ≡ false → is_remembered_lem (remember m x) k ≡ false
remember-other m x k w d e = go (first (is_of k.sender) (remember m x)) refl
  where
    w' : Whole (remember m x)
    w' = remember-whole m x w

    i : ℕ
    i = place_for_lem m x.sender

    here : place_at (remember m x) i ≡ with_key x (place_at m i)
    here = after-here m w.places x

    inside : i < senders_most
    inside = place_inside m w.places x.sender

    -- what counted of x's sender was not k
    before : x.sender ≡ k.sender → has (take (count_of x.sender (place_at m i)) (place_at m i).sequences) k.sequence ≡ false
    before z = elim (either (is_of x.sender (place_at m i))) [
      | inl o ↦ rw (count-own x.sender (place_at m i) o) (sym (found m w k i inside (rw (← z) o)) ∙ e)
      | inr o ↦ rw (count_none x.sender (place_at m i) o)
    ]

    go : (o : Option ℕ) → first (is_of k.sender) (remember m x) ≡ o → is_remembered_lem (remember m x) k ≡ false
    go none q = not_found (remember m x) k q
    go (some j) q =
        let r : First (is_of k.sender) (remember m x) j no_place = first_some (is_of k.sender) no_place (remember m x) j q in
        let b : j < senders_most = omega (arith, r.inside, w'.places) in
        found (remember m x) w' k j b r.passes ∙ elim (ℕ_discrete j i) [
          | yes z ↦
              let y : x.sender ≡ k.sender = sym (key-sender x (place_at m i)) ∙ of-sender k.sender (with_key x (place_at m i)) (rw (z, here) at r.passes) in
              rw (z, here) (key-other x (place_at m i) k.sequence (w.long i inside) (other-sequence x k d y) (before y))
          | no z ↦
              let a : place_at (remember m x) j ≡ sunk (place_at m i).turn (place_at m j) = after-other m w.places x j b z in
              rw a (sym (found m w k j b (rw a at r.passes)) ∙ e)
        ]

-- ---- after deliveries

pub all_whole : (ks : List Key) → Whole (remember_all ks)
unfolding remember_all
all_whole [] = empty-whole
all_whole (k ∷ ks) = remember-whole (remember_all ks) k (all_whole ks)

empty-none : (k : Key) → is_remembered_lem empty_memory k ≡ false
unfolding is_remembered_lem empty_memory
empty-none k = refl

pub empty-vacant : (j : ℕ) → j < senders_most → vacant (place_at empty_memory j) ≡ true
unfolding empty_memory
empty-vacant j b = rw (get_or-replicate senders_most j no_place no_place b)

-- a key never delivered is not remembered
pub strange : (ks : List Key) (k : Key) → among ks k ≡ false → is_remembered_lem (remember_all ks) k ≡ false
unfolding remember_all among
strange [] k h = empty-none k
strange (x ∷ ks) k h = remember-other (remember_all ks) x k (all_whole ks) (or_l (same_key x k) (among ks k) h) (strange ks k (or_r (same_key x k) (among ks k) h))

pub memory-ok : (ks : List Key) → memory_ok (remember_all ks) ≡ true
memory-ok ks = whole-ok (remember_all ks) (all_whole ks)

-- a place has the last 32 of these sequences, which have the latest first; it has the oldest first
pub record Holds (l : List ℕ) (p : Place) : Type 0 where
  pub shown : remembered p ≡ reverse (take keys_each l)
  pub filled : p.used ≡ length (take keys_each l)
  pub room : length p.sequences ≡ keys_each

-- those before the latest
abbrev earlier : List ℕ → List ℕ
earlier l = take (keys_each - 1) l

module _ (l : List ℕ) (p : Place) (r : Holds l p) (k : Key) where
  still-room : p.used < keys_each → Holds (k.sequence ∷ l) (record { sender = k.sender; used = suc p.used; turn = senders_most - 1; sequences = set p.sequences p.used k.sequence })
  still-room h =
      let short : length l < keys_each = omega (arith, r.filled, length-take keys_each l) in
      let all : take keys_each l ≡ earlier l = take_all keys_each l (omega arith) ∙ sym (take_all (keys_each - 1) l (omega arith)) in
      record {
        shown = take-suc-set p.sequences p.used k.sequence (omega (arith, r.room)) ∙ ap (λ (x : List ℕ). x ++ (k.sequence ∷ [])) (r.shown ∙ ap reverse all) ∙ sym (reverse-cons k.sequence (earlier l));
        filled = ap suc (r.filled ∙ ap length all);
        room = length-set p.sequences p.used k.sequence ∙ r.room;
      }

  no_room : keys_each ≤ p.used → Holds (k.sequence ∷ l) (record { sender = k.sender; used = p.used; turn = senders_most - 1; sequences = drop 1 p.sequences ++ (k.sequence ∷ []) })
  no_room h =
      let last : ℕ = get_or l (keys_each - 1) 0 in
      let cut : take keys_each l ≡ earlier l ++ (get_or l (keys_each - 1) 0 ∷ []) = take-suc l (keys_each - 1) 0 (omega (arith, r.filled, length-take keys_each l)) in
      let e : p.sequences ≡ get_or l (keys_each - 1) 0 ∷ reverse (earlier l) =
      sym (take_all p.used p.sequences (omega (arith, r.room))) ∙ r.shown ∙ ap reverse cut ∙ reverse-append (earlier l) (get_or l (keys_each - 1) 0 ∷ []) in
      let long : length (drop 1 p.sequences ++ (k.sequence ∷ [])) ≡ keys_each =
      omega (arith, length-append (drop 1 p.sequences) (k.sequence ∷ []), length-drop 1 p.sequences, r.room) in
      record {
        shown = take_all p.used (drop 1 p.sequences ++ (k.sequence ∷ [])) (omega arith) ∙ ap (λ (x : List ℕ). drop 1 x ++ (k.sequence ∷ [])) e ∙ sym (reverse-cons k.sequence (earlier l));
        filled = omega (arith, r.filled, length-take keys_each l, length-take (keys_each - 1) l);
        room = long;
      }

-- one delivery more at a place that is the sender's own
pub holds-own : (l : List ℕ) (p : Place) (k : Key) → is_of k.sender p ≡ true → Holds l p → Holds (k.sequence ∷ l) (with_key k p)
unfolding with_key
holds-own l p k o r = rw (count-own k.sender p o) (elim (dec_le (suc p.used) keys_each) [
  | yes h ↦ rw (lt-ltb p.used keys_each h) (still-room l p r k h)
  | no h ↦ rw (le-ltb p.used keys_each (omega arith)) (no_room l p r k (omega arith))
])

-- the first at a place that is not
pub holds-first : (p : Place) (k : Key) → is_of k.sender p ≡ false → length p.sequences ≡ keys_each → Holds (k.sequence ∷ []) (with_key k p)
unfolding with_key
holds-first p k o e = rw (count_none k.sender p o)
    (still-room [] (record { sender = p.sender; used = 0; turn = p.turn; sequences = p.sequences }) (record { shown = refl; filled = refl; room = e }) k (lit≤ tt))

-- ---- a sender is forgotten

pub freed-own : (from : ℕ) (p : Place) → is_of from (freed from p) ≡ false
freed-own from p = elim (either (eqb p.sender from)) [
  | inl e ↦ rw e
  | inr e ↦ rw e (and-false (not (vacant p)))
]

-- another's place stays as it is
pub freed-same : (from : ℕ) (p : Place) → eqb p.sender from ≡ false → freed from p ≡ p
freed-same from p e = ap (λ (b : Bool). record { sender = p.sender; used = pick b 0 p.used; turn = p.turn; sequences = p.sequences }) e

module _ (from s : ℕ) (n : s ≢ from) where
  pub freed-other : (p : Place) → is_of s (freed from p) ≡ is_of s p
  freed-other p = elim (ℕ_discrete p.sender from) [
    | yes e ↦
        let d : eqb p.sender s ≡ false = ne_eqb p.sender s (λ z. n (sym z ∙ e)) in
        rw (eq-eqb p.sender from e, d) (sym (and-false (not (vacant p))))
    | no e ↦ rw (ne_eqb p.sender from e)
  ]

  freed-kept : (p : Place) → is_of s p ≡ true → remembered (freed from p) ≡ remembered p
  freed-kept p e = rw (ne_eqb p.sender from (λ z. n (sym (of-sender s p e) ∙ z)))

first-map : (f : Place → Place) (p q : Place → Bool) → ((x : Place) → p (f x) ≡ q x) → (l : List Place) → first p (map f l) ≡ first q l
first-map f p q h [] = refl
first-map f p q h (x ∷ l) = rw (h x, first-map f p q h l)

first-never : (p : Place → Bool) (l : List Place) → ((i : ℕ) → i < length l → p (place_at l i) ≡ false) → first p l ≡ none
first-never p l h = go (first p l) refl
  where
    go : (o : Option ℕ) → first p l ≡ o → first p l ≡ none
    go none e = e
    go (some i) e = let r : First p l i no_place = first_some p no_place l i e in never r.passes (h i r.inside)

-- every other sender's keys are remembered as before
pub forget-kept : (m : Memory) (from : ℕ) (k : Key) → k.sender ≢ from → is_remembered_lem (forget_keys m from) k ≡ is_remembered_lem m k
unfolding is_remembered_lem forget_keys
forget-kept m from k n =
    rw (first-map (freed from) (is_of k.sender) (is_of k.sender) (freed-other from k.sender n) m)
    (go (first (is_of k.sender) m) refl)
  where
    go : (o : Option ℕ) → first (is_of k.sender) m ≡ o → has (kept_at (map (freed from) m) o) k.sequence ≡ has (kept_at m o) k.sequence
    go none e = refl
    go (some i) e =
        let r : First (is_of k.sender) m i no_place = first_some (is_of k.sender) no_place m i e in
        rw (get_d_map (freed from) m i r.inside) (ap (λ (l : List ℕ). has l k.sequence) (freed-kept from k.sender n (place_at m i) r.passes))

-- that sender's keys are not remembered any more
pub forget-own : (m : Memory) (from : ℕ) (k : Key) → k.sender ≡ from → is_remembered_lem (forget_keys m from) k ≡ false
unfolding forget_keys
forget-own m from k e = not_found (map (freed from) m) k (first-never (is_of k.sender) (map (freed from) m) (λ i b.
    rw (get_d_map (freed from) m i (omega (arith, length-map m (freed from))), e) (freed-own from (place_at m i))))

pub forget-other : (m : Memory) (from : ℕ) (k : Key) → is_remembered_lem m k ≡ false → is_remembered_lem (forget_keys m from) k ≡ false
forget-other m from k e = elim (ℕ_discrete k.sender from) [
  | yes q ↦ forget-own m from k q
  | no q ↦ forget-kept m from k q ∙ e
]

pub forget-at : (m : Memory) (from i : ℕ) → i < length m → place_at (forget_keys m from) i ≡ freed from (place_at m i)
unfolding forget_keys
forget-at m from i h = get_d_map (freed from) m i h

pub forget-long : (m : Memory) (from : ℕ) → length (forget_keys m from) ≡ length m
unfolding forget_keys
forget-long m from = length-map m (freed from)

pub forget-whole : (m : Memory) (from : ℕ) → Whole m → Whole (forget_keys m from)
unfolding forget_keys
forget-whole m from w = record {
  places = length-map m (freed from) ∙ w.places;
  bounded = λ i b. rw (at i b) (pick_all (λ (n : ℕ). n ≤ keys_each) (eqb (place_at m i).sender from) (λ e. zero-le) (λ e. w.bounded i b));
  long = λ i b. rw (at i b) (w.long i b);
  single = λ s i j a b p q. w.single s i j a b (was s i a p) (was s j b q);
}
  where
    at : (i : ℕ) → i < senders_most → place_at (map (freed from) m) i ≡ freed from (place_at m i)
    at i b = get_d_map (freed from) m i (omega (arith, w.places))

    was : (s i : ℕ) → i < senders_most → is_of s (place_at (map (freed from) m) i) ≡ true → is_of s (place_at m i) ≡ true
    was s i b e = elim (ℕ_discrete s from) [
      | yes q ↦ never (rw (at i b, q) at e) (freed-own from (place_at m i))
      | no q ↦ sym (freed-other from s q (place_at m i)) ∙ (rw (at i b) at e)
    ]
