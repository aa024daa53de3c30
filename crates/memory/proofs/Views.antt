-- What the memory's words show, before and after its functions: the step list's own memory.
use Rattle.wire.proofs.Basics.{◌∙◌, sym, ◌≡◌, ap, refl, ℕ, ◌≤◌, ◌+◌, ◌<◌, ◌-◌, suc, zero, ◌*◌, ◌%◌, ◌/◌, List, [], ◌∷◌, ◌++◌, false, Bool, inl, inr, ◌≢◌, some, none, length, drop, get_or}
use Rattle.wire.proofs.Basics.{length-append, length-drop, set, length-set, get_or-drop, get_or-set_other, get_or-set_same, ext_get_or, ltb, le-ltb, ne_eqb, lt-ltb, ℕ_discrete, dec_le, arith}
use lib.ListN.{get_or-append}
use lib.Seq.{get_or_at}
use Rattle.wire.specs.Choice.{pick}
use Rattle.wire.proofs.Choices.{either, pick_all}
use Rattle.ranks.specs.Ranks.{rank_of, lower_rank_lem, ranks_lowered, lowest_ranked_lem}
use Rattle.words.proofs.Builds.{length-build, get_or-build, build-is}
use Rattle.ranks.proofs.Ranks.{lowered-length, lowered-other}
use Rattle.steps.specs.Limits.{senders_most, keys_each}
use Rattle.steps.specs.Search.{first}
use Rattle.steps.specs.Memory.{key_of, Place, no_place, vacant, is_of, remembered, has, Memory, place_at, is_remembered_lem, furthest_back, place_for_lem, count_of, pushed, with_key, sunk, remember}
use Rattle.steps.proofs.Memories.{place_inside, after-long, after-here, after-other}
use Rattle.steps.proofs.Tables.{first_some}
use Rattle.memory.specs.Words.{sender_at, used_at, turns_at, turn_at, sequences_at, memory_words, sequences_in, place_in, memory_in, Left}
use Rattle.memory.specs.InsideParts.{turn_ranks, settled_in, shifted_in, added_in}
use Rattle.memory.proofs.Loops.{shifted-length}

pub place-eq : (a b : Place) → a.sender ≡ b.sender → a.used ≡ b.used → a.turn ≡ b.turn → a.sequences ≡ b.sequences → a ≡ b
place-eq a b p q r s = λ i. record { sender = p i; used = q i; turn = r i; sequences = s i }

-- ---- the places

pub memory-long : (w : List ℕ) → length (memory_in w) ≡ senders_most
unfolding memory_in
memory-long w = length-build senders_most (place_in w)

pub place-shown : (w : List ℕ) (i : ℕ) → i < senders_most → place_at (memory_in w) i ≡ place_in w i
unfolding memory_in
place-shown w i h = get_or-build senders_most (place_in w) i no_place h

-- words that show every place of a memory show the memory
pub shows : (w : List ℕ) (m : Memory) → length m ≡ senders_most → ((i : ℕ) → i < senders_most → place_in w i ≡ place_at m i) → memory_in w ≡ m
unfolding memory_in
shows w m e h = build-is senders_most (place_in w) m no_place e h

-- ---- a place is found

module _ (w : List ℕ) (s : ℕ) where
  abbrev m : Memory
  m = memory_in w

  own-inside : (i : ℕ) → first (is_of s) m ≡ some i → i < senders_most
  own-inside i e = omega (arith, (first_some (is_of s) no_place m i e).inside, memory-long w)

  -- THE LAWS of is_remembered: by the sender's place, or by none
  pub known-there : (q i : ℕ) (r : Bool) → first (is_of s) m ≡ some i → r ≡ has (remembered (place_in w i)) q → r ≡ is_remembered_lem m (key_of s q)
  unfolding is_remembered_lem
  known-there q i r e f = rw e (f ∙ ap (λ (p : Place). has (remembered p) q) (sym (place-shown w i (own-inside i e))))

  pub known-nowhere : (q : ℕ) → first (is_of s) m ≡ none → false ≡ is_remembered_lem m (key_of s q)
  unfolding is_remembered_lem
  known-nowhere q e = rw e refl

  low-inside : (n : ℕ) → furthest_back m n ≤ n
  low-inside zero = omega arith
  low-inside (suc n) = pick_all (λ (k : ℕ). k ≤ suc n) (ltb (place_at m n).turn (place_at m (furthest_back m n)).turn) (λ z. omega arith) (λ z. omega (arith, low-inside n))

  turn_is : (i : ℕ) → i < senders_most → rank_of w turn_ranks i ≡ (place_at m i).turn
  turn_is i h =
      let r : turns_at + 1 * i + 0 ≡ turn_at i = omega arith in
      ap (λ (k : ℕ). get_or w k 0) r ∙ sym (ap (λ (p : Place). p.turn) (place-shown w i h))

  furthest-is : (n : ℕ) → n ≤ senders_most → lowest_ranked_lem w turn_ranks n ≡ furthest_back m n
  unfolding lowest_ranked_lem
  furthest-is zero h = refl
  furthest-is (suc n) h =
      ap (λ (k : ℕ). pick (ltb (rank_of w turn_ranks n) (rank_of w turn_ranks k)) n k) (furthest-is n (omega arith))
      ∙ (λ j. pick (ltb (turn_is n (omega arith) j) (turn_is (furthest_back m n) (omega (arith, low-inside n)) j)) n (furthest_back m n))

  -- THE LAWS of place_for
  pub for-own : (i : ℕ) → first (is_of s) m ≡ some i → i ≡ place_for_lem m s
  unfolding place_for_lem
  for-own i e = rw e refl

  pub for-free : (j : ℕ) → first (is_of s) m ≡ none → first vacant m ≡ some j → j ≡ place_for_lem m s
  unfolding place_for_lem
  for-free j e f = rw (e, f) refl

  pub for-other : (r : ℕ) → first (is_of s) m ≡ none → first vacant m ≡ none → r ≡ lowest_ranked_lem w turn_ranks senders_most → r ≡ place_for_lem m s
  unfolding place_for_lem
  for-other r e f z = rw (e, f) (z ∙ furthest-is senders_most (omega arith))

pub for-inside : (w : List ℕ) (s i : ℕ) → i ≡ place_for_lem (memory_in w) s → i < senders_most
for-inside w s i e = rw e (place_inside (memory_in w) (memory-long w) s)

-- ---- a key is remembered

-- each turn above t moves down by one
lower-is : (t x : ℕ) → lower_rank_lem x t x ≡ pick (ltb t x) (x - 1) x
lower-is t zero = rw (le-ltb t 0 (omega arith))
lower-is t (suc x) = rw (ne_eqb (suc x) 0 (λ z. omega arith))

turns_lowered : (w : List ℕ) (t n j : ℕ) → j < n → turn_at j < length w
    → get_or (ranks_lowered w turn_ranks t n) (turn_at j) 0 ≡ pick (ltb t (get_or w (turn_at j) 0)) (get_or w (turn_at j) 0 - 1) (get_or w (turn_at j) 0)
unfolding ranks_lowered
turns_lowered w t zero j h b = absurd (omega arith)
turns_lowered w t (suc n) j h b =
    let v : List ℕ = ranks_lowered w turn_ranks t n in
    let r : turns_at + 1 * n + 0 ≡ turn_at n = omega arith in
    elim (ℕ_discrete j n) [
      | yes z ↦
          let same : get_or (ranks_lowered w turn_ranks t n) (turns_at + 1 * n + 0) 0 ≡ get_or w (turn_at n) 0 =
          lowered-other w turn_ranks t n (turns_at + 1 * n + 0) (λ x y q. omega arith) ∙ ap (λ (k : ℕ). get_or w k 0) r in
          rw z (ap (λ (k : ℕ). get_or (ranks_lowered w turn_ranks t (suc n)) k 0) (sym r)
          ∙ get_or-set_same (ranks_lowered w turn_ranks t n) (turns_at + 1 * n + 0) _ 0 (omega (arith, lowered-length w turn_ranks t n, z))
          ∙ (λ k. lower_rank_lem (same k) t (same k)) ∙ lower-is t (get_or w (turn_at n) 0))
      | no z ↦ get_or-set_other (ranks_lowered w turn_ranks t n) (turns_at + 1 * n + 0) (turn_at j) _ 0 (λ y. z (omega arith)) ∙ turns_lowered w t n j (omega arith) b
    ]

-- place i is the sender's, and the latest
module _ (w : List ℕ) (e : length w ≡ memory_words) (i s : ℕ) (h : i < senders_most) where
  abbrev t : ℕ
  t = get_or w (turn_at i) 0

  abbrev w1 : List ℕ
  w1 = ranks_lowered w turn_ranks t senders_most

  abbrev w2 : List ℕ
  w2 = set w1 (turn_at i) (senders_most - 1)

  w1-length : length w1 ≡ memory_words
  w1-length = lowered-length w turn_ranks t senders_most ∙ e

  pub settled-length : length (settled_in w i s) ≡ memory_words
  unfolding settled_in
  settled-length = length-set w2 (sender_at i) s ∙ length-set w1 (turn_at i) (senders_most - 1) ∙ w1-length

  pub settled-sender : get_or (settled_in w i s) (sender_at i) 0 ≡ s
  unfolding settled_in
  settled-sender = get_or-set_same w2 (sender_at i) s 0 (omega (arith, length-set w1 (turn_at i) (senders_most - 1), w1-length))

  pub settled-turn : get_or (settled_in w i s) (turn_at i) 0 ≡ senders_most - 1
  unfolding settled_in
  settled-turn = get_or-set_other w2 (sender_at i) (turn_at i) s 0 (λ z. omega arith) ∙ get_or-set_same w1 (turn_at i) (senders_most - 1) 0 (omega (arith, w1-length))

  -- every word stays but the turns and the sender at i
  pub settled-other : (k : ℕ) → k ≢ sender_at i → ((j : ℕ) → j < senders_most → k ≢ turn_at j) → get_or (settled_in w i s) k 0 ≡ get_or w k 0
  unfolding settled_in
  settled-other k a b =
      get_or-set_other w2 (sender_at i) k s 0 a ∙ get_or-set_other w1 (turn_at i) k (senders_most - 1) 0 (b i h)
      ∙ lowered-other w turn_ranks t senders_most k (λ j l z. b j l (z ∙ omega arith))

  pub settled-turns : (j : ℕ) → j < senders_most → j ≢ i → get_or (settled_in w i s) (turn_at j) 0 ≡ pick (ltb t (get_or w (turn_at j) 0)) (get_or w (turn_at j) 0 - 1) (get_or w (turn_at j) 0)
  unfolding settled_in
  settled-turns j b n =
      get_or-set_other w2 (sender_at i) (turn_at j) s 0 (λ z. omega arith) ∙ get_or-set_other w1 (turn_at i) (turn_at j) (senders_most - 1) 0 (λ z. n (omega arith))
      ∙ turns_lowered w t senders_most j b (omega arith)

-- ---- numbers that took the next one's place

shifted-out : (v : List ℕ) (a n j : ℕ) → (a ≤ j → j < a + n → ⊥) → get_or (shifted_in v a n) j 0 ≡ get_or v j 0
unfolding shifted_in
shifted-out v a zero j h = refl
shifted-out v a (suc n) j h = get_or-set_other (shifted_in v a n) (a + n) j _ 0 (λ q. h (omega arith) (omega arith)) ∙ shifted-out v a n j (λ g k. h g (omega arith))

shifted_in_lem : (v : List ℕ) (a n j : ℕ) → a + n ≤ length v → a ≤ j → j < a + n → get_or (shifted_in v a n) j 0 ≡ get_or v (j + 1) 0
unfolding shifted_in
shifted_in_lem v a zero j e g h = absurd (omega arith)
shifted_in_lem v a (suc n) j e g h = elim (ℕ_discrete j (a + n)) [
  | yes q ↦ rw q (get_or-set_same (shifted_in v a n) (a + n) _ 0 (omega (arith, shifted-length v a n)) ∙ shifted-out v a n (a + n + 1) (λ z y. omega arith))
  | no q ↦ get_or-set_other (shifted_in v a n) (a + n) j _ 0 q ∙ shifted_in_lem v a n j (omega arith) g (omega arith)
]

-- what copies the numbers from a + 1 on, to a
pub copied-shifted : (w v : List ℕ) (a : ℕ) → a + keys_each ≤ length w → length v ≡ length w
    → ((k d : ℕ) → a ≤ k → k < a + (keys_each - 1) → get_or v k d ≡ get_or w (a + 1 + (k - a)) d)
    → ((k d : ℕ) → k < a → get_or v k d ≡ get_or w k d) → ((k d : ℕ) → a + (keys_each - 1) ≤ k → get_or v k d ≡ get_or w k d)
    → v ≡ shifted_in w a (keys_each - 1)
copied-shifted w v a h e moved below above = ext_get_or 0 v (shifted_in w a (keys_each - 1)) (e ∙ sym (shifted-length w a (keys_each - 1))) (λ k l. elim (dec_le a k) [
  | yes g ↦ elim (dec_le (suc k) (a + (keys_each - 1))) [
    | yes y ↦
        let p : a + 1 + (k - a) ≡ k + 1 = omega arith in
        moved k 0 g y ∙ ap (λ (i : ℕ). get_or w i 0) p ∙ sym (shifted_in_lem w a (keys_each - 1) k (omega arith) g y)
    | no n ↦ above k 0 (omega arith) ∙ sym (shifted-out w a (keys_each - 1) k (λ x y. n y))
  ]
  | no n ↦ below k 0 (omega arith) ∙ sym (shifted-out w a (keys_each - 1) k (λ x y. n x))
])

push_at : (l : List ℕ) (x n i : ℕ) → length l ≡ suc n → i < suc n → get_or (drop 1 l ++ (x ∷ [])) i 0 ≡ pick (ltb i n) (get_or l (suc i) 0) x
push_at l x n i e h =
    let m : length (drop 1 l) ≡ n = omega (arith, length-drop 1 l) in
    elim (dec_le (suc i) n) [
      | yes k ↦
          let one : 1 + i ≡ suc i = omega arith in
          rw (lt-ltb i n k) (get_or-append (drop 1 l) (x ∷ []) 0 i (omega arith) ∙ get_or-drop 1 l i 0 ∙ ap (λ (j : ℕ). get_or l j 0) one)
      | no k ↦ rw (le-ltb i n (omega arith)) (get_or_at (drop 1 l) x [] 0 i (omega arith))
    ]

-- ---- a sequence more at place i

module _ (w : List ℕ) (e : length w ≡ memory_words) (i n q : ℕ) (h : i < senders_most) where
  abbrev a : ℕ
  a = sequences_at i

  abbrev l : List ℕ
  l = sequences_in w i

  l-length : length l ≡ keys_each
  l-length = length-build keys_each (λ j. get_or w (a + j) 0)

  l-at : (j : ℕ) → j < keys_each → get_or l j 0 ≡ get_or w (a + j) 0
  l-at j b = get_or-build keys_each (λ j. get_or w (a + j) 0) j 0 b

  pub added-length : length (added_in w i n q) ≡ memory_words
  unfolding added_in
  added-length = pick_all (λ (v : List ℕ). length v ≡ memory_words) (ltb n keys_each)
      (λ z. length-set (set w (a + n) q) (used_at i) (n + 1) ∙ length-set w (a + n) q ∙ e)
      (λ z. length-set (shifted_in w a (keys_each - 1)) (a + (keys_each - 1)) q ∙ shifted-length w a (keys_each - 1) ∙ e)

  pub added-sequences : sequences_in (added_in w i n q) i ≡ pushed l n q
  unfolding added_in
  added-sequences = elim (dec_le (suc n) keys_each) [
    | yes b ↦ rw (lt-ltb n keys_each b) (build-is keys_each (λ j. get_or (set (set w (a + n) q) (used_at i) (n + 1)) (a + j) 0) (set l n q) 0 (length-set l n q ∙ l-length)
        (λ j k. get_or-set_other (set w (a + n) q) (used_at i) (a + j) (n + 1) 0 (λ z. omega arith) ∙ elim (ℕ_discrete j n) [
          | yes z ↦ rw z (get_or-set_same w (a + n) q 0 (omega arith) ∙ sym (get_or-set_same l n q 0 (omega (arith, l-length))))
          | no z ↦ get_or-set_other w (a + n) (a + j) q 0 (λ y. z (omega arith)) ∙ sym (get_or-set_other l n j q 0 z ∙ l-at j k)
        ]))
    | no b ↦ rw (le-ltb n keys_each (omega arith)) (build-is keys_each (λ j. get_or (set (shifted_in w a (keys_each - 1)) (a + (keys_each - 1)) q) (a + j) 0) (drop 1 l ++ (q ∷ [])) 0
        (omega (arith, length-append (drop 1 l) (q ∷ []), length-drop 1 l, l-length))
        (λ j k. elim (dec_le (suc j) (keys_each - 1)) [
          | yes z ↦
              let p : a + j + 1 ≡ a + suc j = omega arith in
              get_or-set_other (shifted_in w a (keys_each - 1)) (a + (keys_each - 1)) (a + j) q 0 (λ y. omega arith)
              ∙ shifted_in_lem w a (keys_each - 1) (a + j) (omega arith) (omega arith) (omega arith) ∙ ap (λ (x : ℕ). get_or w x 0) p
              ∙ sym (push_at l q (keys_each - 1) j l-length k ∙ rw (lt-ltb j (keys_each - 1) z) (l-at (suc j) (omega arith)))
          | no z ↦
              let p : j ≡ keys_each - 1 = omega arith in
              ap (λ (x : ℕ). get_or (set (shifted_in w a (keys_each - 1)) (a + (keys_each - 1)) q) (a + x) 0) p
              ∙ get_or-set_same (shifted_in w a (keys_each - 1)) (a + (keys_each - 1)) q 0 (omega (arith, shifted-length w a (keys_each - 1)))
              ∙ sym (push_at l q (keys_each - 1) j l-length k ∙ rw (le-ltb j (keys_each - 1) (omega arith)))
        ]))
  ]

  pub added-used : (keys_each ≤ n → get_or w (used_at i) 0 ≡ n) → get_or (added_in w i n q) (used_at i) 0 ≡ pick (ltb n keys_each) (suc n) n
  unfolding added_in
  added-used f = elim (dec_le (suc n) keys_each) [
    | yes b ↦ rw (lt-ltb n keys_each b) (get_or-set_same (set w (a + n) q) (used_at i) (n + 1) 0 (omega (arith, length-set w (a + n) q)) ∙ omega arith)
    | no b ↦ rw (le-ltb n keys_each (omega arith)) (get_or-set_other (shifted_in w a (keys_each - 1)) (a + (keys_each - 1)) (used_at i) q 0 (λ z. omega arith)
        ∙ shifted-out w a (keys_each - 1) (used_at i) (λ z y. omega arith) ∙ f (omega arith))
  ]

  -- every other word stays
  pub added-other : (k : ℕ) → k ≢ used_at i → (a ≤ k → k < a + keys_each → ⊥) → get_or (added_in w i n q) k 0 ≡ get_or w k 0
  unfolding added_in
  added-other k d f = elim (dec_le (suc n) keys_each) [
    | yes b ↦ rw (lt-ltb n keys_each b) (get_or-set_other (set w (a + n) q) (used_at i) k (n + 1) 0 d ∙ get_or-set_other w (a + n) k q 0 (λ z. f (omega arith) (omega arith)))
    | no b ↦ rw (le-ltb n keys_each (omega arith)) (get_or-set_other (shifted_in w a (keys_each - 1)) (a + (keys_each - 1)) k q 0 (λ z. f (omega arith) (omega arith))
        ∙ shifted-out w a (keys_each - 1) k (λ z y. f z (omega arith)))
  ]

-- ---- both

count-there : (s : ℕ) (p : Place) → keys_each ≤ count_of s p → p.used ≡ count_of s p
count-there s p h = elim (either (is_of s p)) [
  | inl e ↦ rw e
  | inr e ↦ absurd (let z : keys_each ≤ 0 = rw e at h in let y : ⊥ = omega arith in y)
]

module _ (w : List ℕ) (e : length w ≡ memory_words) (s q i n : ℕ) (h : i < senders_most) (f : n ≡ count_of s (place_in w i)) where
  abbrev v : List ℕ
  v = settled_in w i s

  abbrev u : List ℕ
  u = added_in v i n q

  v-length : length v ≡ memory_words
  v-length = settled-length w e i s h

  same-sequences : (j : ℕ) → j < senders_most → sequences_in v j ≡ sequences_in w j
  same-sequences j b = build-is keys_each (λ k. get_or v (sequences_at j + k) 0) (sequences_in w j) 0 (length-build keys_each (λ k. get_or w (sequences_at j + k) 0))
      (λ k c. settled-other w e i s h (sequences_at j + k) (λ z. omega arith) (λ x y z. omega arith) ∙ sym (get_or-build keys_each (λ k. get_or w (sequences_at j + k) 0) k 0 c))

  here : place_in u i ≡ with_key (key_of s q) (place_in w i)
  unfolding with_key
  here = place-eq _ _
      (added-other v v-length i n q h (sender_at i) (λ z. omega arith) (λ z y. omega arith) ∙ settled-sender w e i s h)
      (added-used v v-length i n q h (λ z. settled-other w e i s h (used_at i) (λ y. omega arith) (λ x y g. omega arith) ∙ count-there s (place_in w i) (rw f at z) ∙ sym f) ∙ rw f)
      (added-other v v-length i n q h (turn_at i) (λ z. omega arith) (λ z y. omega arith) ∙ settled-turn w e i s h)
      (added-sequences v v-length i n q h ∙ (λ x. pushed (same-sequences i h x) (f x) q))

  other-sequences : (j : ℕ) → j < senders_most → j ≢ i → sequences_in u j ≡ sequences_in v j
  other-sequences j b d = build-is keys_each (λ k. get_or u (sequences_at j + k) 0) (sequences_in v j) 0 (length-build keys_each (λ k. get_or v (sequences_at j + k) 0))
      (λ k c. added-other v v-length i n q h (sequences_at j + k) (λ z. omega arith) (λ z y. d (omega arith)) ∙ sym (get_or-build keys_each (λ k. get_or v (sequences_at j + k) 0) k 0 c))

  there : (j : ℕ) → j < senders_most → j ≢ i → place_in u j ≡ sunk (get_or w (turn_at i) 0) (place_in w j)
  there j b d = place-eq _ _
      (added-other v v-length i n q h (sender_at j) (λ z. omega arith) (λ z y. omega arith) ∙ settled-other w e i s h (sender_at j) d (λ x y z. omega arith))
      (added-other v v-length i n q h (used_at j) (λ z. d (omega arith)) (λ z y. omega arith) ∙ settled-other w e i s h (used_at j) (λ z. omega arith) (λ x y z. omega arith))
      (added-other v v-length i n q h (turn_at j) (λ z. omega arith) (λ z y. omega arith) ∙ settled-turns w e i s h j b d)
      (other-sequences j b d ∙ same-sequences j b)

-- THE LAW of remember
pub remembered-memory : (w : List ℕ) → length w ≡ memory_words → (s q i n : ℕ) → i ≡ place_for_lem (memory_in w) s → n ≡ count_of s (place_in w i)
    → memory_in (added_in (settled_in w i s) i n q) ≡ remember (memory_in w) (key_of s q)
remembered-memory w e s q i n p f =
    let long : length (memory_in w) ≡ senders_most = memory-long w in
    let h : i < senders_most = for-inside w s i p in
    let shown : place_at (memory_in w) i ≡ place_in w i = place-shown w i h in
    shows (added_in (settled_in w i s) i n q) (remember (memory_in w) (key_of s q)) (after-long (memory_in w) long (key_of s q)) (λ j b. elim (ℕ_discrete j i) [
      | yes z ↦ rw z (here w e s q i n h f ∙ sym (ap (place_at (remember (memory_in w) (key_of s q))) p ∙ after-here (memory_in w) long (key_of s q)
          ∙ ap (λ (x : ℕ). with_key (key_of s q) (place_at (memory_in w) x)) (sym p) ∙ ap (with_key (key_of s q)) shown))
      | no z ↦ there w e s q i n h f j b z ∙ sym (after-other (memory_in w) long (key_of s q) j b (λ y. z (y ∙ sym p))
          ∙ ap (λ (x : ℕ). sunk (place_at (memory_in w) x).turn (place_at (memory_in w) j)) (sym p) ∙ (λ x. sunk (shown x).turn (place-shown w j b x)))
    ])

pub remembered-length : (w : List ℕ) → length w ≡ memory_words → (s q i n : ℕ) → i < senders_most → length (added_in (settled_in w i s) i n q) ≡ memory_words
remembered-length w e s q i n h = added-length (settled_in w i s) (settled-length w e i s h) i n q h

-- ---- what is left

pub stays : (w : List ℕ) (m : Memory) → (length w ≡ memory_words → ⊥) → Left w m w
stays w m d = record { shows = λ e. absurd (d e); words = refl; still = λ z. refl }

pub left : (w v : List ℕ) (m : Memory) → length w ≡ memory_words → memory_in v ≡ m → length v ≡ length w → Left w m v
left w v m e p l = record { shows = λ z. p; words = l; still = λ d. absurd (d e) }

-- ---- the words are known from what they show

module _ (a b : List ℕ) (e : length a ≡ memory_words) (f : length b ≡ memory_words) (p : memory_in a ≡ memory_in b) where
  same_place : (i : ℕ) → i < senders_most → place_in a i ≡ place_in b i
  same_place i h = sym (place-shown a i h) ∙ ap (λ (m : Memory). place_at m i) p ∙ place-shown b i h

  same-sequence : (i j : ℕ) → i < senders_most → j < keys_each → get_or a (sequences_at i + j) 0 ≡ get_or b (sequences_at i + j) 0
  same-sequence i j h k =
      sym (get_or-build keys_each (λ x. get_or a (sequences_at i + x) 0) j 0 k) ∙ ap (λ (x : Place). get_or x.sequences j 0) (same_place i h)
      ∙ get_or-build keys_each (λ x. get_or b (sequences_at i + x) 0) j 0 k

  each : (k : ℕ) → k < memory_words → get_or a k 0 ≡ get_or b k 0
  each k h = elim (dec_le (suc k) senders_most) [
    | yes x ↦ ap (λ (y : Place). y.sender) (same_place k x)
    | no x ↦ elim (dec_le (suc k) turns_at) [
      | yes y ↦
          let r : used_at (k - senders_most) ≡ k = omega arith in
          ap (λ j. get_or a j 0) (sym r) ∙ ap (λ (z : Place). z.used) (same_place (k - senders_most) (omega arith)) ∙ ap (λ j. get_or b j 0) r
      | no y ↦ elim (dec_le (suc k) (sequences_at 0)) [
        | yes z ↦
            let r : turn_at (k - turns_at) ≡ k = omega arith in
            ap (λ j. get_or a j 0) (sym r) ∙ ap (λ (z : Place). z.turn) (same_place (k - turns_at) (omega arith)) ∙ ap (λ j. get_or b j 0) r
        | no z ↦
            let i : ℕ = (k - sequences_at 0) / keys_each in
            let j : ℕ = (k - sequences_at 0) % keys_each in
            let r : sequences_at ((k - sequences_at 0) / keys_each) + (k - sequences_at 0) % keys_each ≡ k = omega arith in
            ap (λ j. get_or a j 0) (sym r) ∙ same-sequence ((k - sequences_at 0) / keys_each) ((k - sequences_at 0) % keys_each) (omega arith) (omega arith) ∙ ap (λ j. get_or b j 0) r
      ]
    ]
  ]

  pub memory_injective : a ≡ b
  memory_injective = ext_get_or 0 a b (e ∙ sym f) (λ j h. each j (omega arith))

-- a memory that is left is left one way
pub left-once : (w : List ℕ) (m : Memory) (u v : List ℕ) → Left w m u → Left w m v → u ≡ v
left-once w m u v a b = elim (ℕ_discrete (length w) memory_words) [
  | yes e ↦ memory_injective u v (a.words ∙ e) (b.words ∙ e) (a.shows e ∙ sym (b.shows e))
  | no e ↦ a.still e ∙ sym (b.still e)
]
