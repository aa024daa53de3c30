-- Laws of the bridge: what looking up and changing the lent words comes to in the machine that they show.
use Rattle.wire.proofs.Basics.{◌∙◌, sym, ◌≡◌, ap, refl, ℕ, ◌≤◌, ◌+◌, ◌<◌, ◌-◌, suc, zero, ◌*◌, min, List, map, true, false, Bool, ◌&&◌, ◌||◌, not, inl, inr, ◌≢◌, length, drop, get_or, take}
use Rattle.wire.proofs.Basics.{length-drop, set, length-set, length-map, take_all, get_or-set_other, get_or-set_same, eqb, eq-eqb, ne_eqb, ℕ_discrete, dec_le, arith}
use native.Mathlib.Nat.{le_antisymm}
use lib.ListN.{get_or-map}
use lib.Seq.{drop-set-add, drop-set-lt, take-set-lt, take-set-le}
use Rattle.wire.specs.Overlay.{overlay}
use Rattle.wire.proofs.Overlays.{overlay-at, length-overlay}
use Rattle.datagram.specs.Limits.{max_name}
use Rattle.steps.specs.Limits.{slot_count, ledger_length, slot_size_of}
use Rattle.steps.specs.Search.{all_below, count}
use Rattle.steps.specs.Memory.{key_of, memory_ok}
use Rattle.steps.specs.Slots.{Slot, busy, no_slot, slot_at, has_key, is_free, find_open_lem, find_free, oldest, open_count_lem, lower}
use Rattle.steps.specs.Slots as step
use Rattle.steps.specs.Receive.{with_slots, slot_ok, sound}
use Rattle.steps.specs.InsideSearch.{option_of}
use Rattle.steps.proofs.Tables.{all_cong, count_same}
use Rattle.steps.proofs.Stores.{write-out}
use Rattle.memory.specs.Words.{memory_words, memory_in}
use Rattle.words.specs.Builds.{build}
use Rattle.words.proofs.Builds.{length-build, get_or-build, build-is}
use Rattle.ranks.specs.Ranks.{rank_of, lower_rank_lem, ranks_lowered, lowest_ranked_lem}
use Rattle.ranks.proofs.Ranks.{Lowest, lowest-is}
use Rattle.std.proofs.Common.{None}
use Rattle.slots.specs.Words.{head_words, block_words, block_at, turns, at, sender_word, sequence_word, size_word, count_word, turn_word, held_word, first_below, free_in, busy_in, key_in, sound_in}
use Rattle.slots.proofs.Loops.{first-here, none-below}
use Rattle.receiver_state.specs.View.{store_word, room_word, memory_at, state_words_lem, name_bytes_lem, block, name_in, slot_in, slot_of, slots_of, memory_of, view, ready}
use Rattle.receiver_state.specs.Inside.{Shaped}
use Rattle.receiver_state.proofs.Windows.{window_get, window-length, window-apart, rest-apart, window_in}
use Rattle.receiver_state.proofs.Firsts.{first-build, first-same}

-- ---- looking up

-- a block's word
pub word : (w : List ℕ) (i j : ℕ) → j < block_words → get_or (block w i) j 0 ≡ at w i j
word w i j h = window_get block_words (block_at i) w j h

module _ (w n : List ℕ) where
  pub slots_length : length (slots_of w n) ≡ slot_count
  unfolding slots_of
  slots_length = refl

  pub slot-at : (s : ℕ) → s < slot_count → slot_at (slots_of w n) s ≡ slot_of w n s
  unfolding slots_of
  slot-at s h = get_or-build slot_count (slot_of w n) s no_slot h

  free-at : (i : ℕ) → is_free (slot_of w n i) ≡ free_in w i
  free-at i = rw (word w i count_word (omega arith)) (go (eqb (at w i count_word) 0))
    where
      go : (b : Bool) → not (not b) ≡ b
      go true = refl
      go false = refl

  pub open-slot : (s q : ℕ) → find_open_lem (slots_of w n) (key_of s q) ≡ option_of (first_below (key_in w s q) slot_count)
  unfolding slots_of
  open-slot s q = first-build (has_key (key_of s q)) slot_count (slot_of w n) ∙ ap option_of (first-same (λ i. has_key (key_of s q) (slot_of w n i)) (key_in w s q) slot_count (λ i h.
      rw (word w i count_word (omega arith), word w i sender_word (omega arith), word w i sequence_word (omega arith))))

  pub free-slot : find_free (slots_of w n) ≡ option_of (first_below (free_in w) slot_count)
  unfolding slots_of
  free-slot = first-build is_free slot_count (slot_of w n) ∙ ap option_of (first-same _ _ slot_count (λ i h. free-at i))

  pub open-many : open_count_lem (slots_of w n) ≡ count (busy_in w) slot_count
  unfolding open_count_lem
  open-many = count_same slot_count (λ i. busy (slot_at (slots_of w n) i)) (busy_in w) (λ i h. ap busy (slot-at i h) ∙ rw (word w i count_word (omega arith)))

-- ---- the slot that was opened longest ago

abbrev low : (ℕ → ℕ) → ℕ → ℕ
low g zero = g 0
low g (suc n) = min (low g n) (g n)

low-next : (g : ℕ → ℕ) (n : ℕ) → low g (suc (suc n)) ≡ min (g 0) (low (λ i. g (suc i)) (suc n))
low-next g zero = omega arith
low-next g (suc n) =
    let e : low g (suc (suc n)) ≡ min (g 0) (low (λ i. g (suc i)) (suc n)) = low-next g n in
    rw e (go (g 0) (low (λ i. g (suc i)) (suc n)) (g (suc (suc n))))
  where
    go : (a b c : ℕ) → min (min a b) c ≡ min a (min b c)
    go a b c = omega arith

low-le : (g : ℕ → ℕ) (n i : ℕ) → i < n → low g n ≤ g i
low-le g zero i h = absurd (omega arith)
low-le g (suc n) i h = elim (ℕ_discrete i n) [ yes e ↦ rw e (omega arith) | no e ↦ omega (arith, low-le g n i (omega arith)) ]

low_ge : (g : ℕ → ℕ) (x n : ℕ) → x ≤ g 0 → ((i : ℕ) → i < n → x ≤ g i) → x ≤ low g n
low_ge g x zero z h = z
low_ge g x (suc n) z h = omega (arith, low_ge g x n z (λ i k. h i (omega arith)), h n (omega arith))

lowest-build : (n : ℕ) (f : ℕ → Slot) → step.lowest_turn (build (suc n) f) ≡ low (λ i. (f i).turn) (suc n)
lowest-build zero f = omega arith
lowest-build (suc n) f = rw (lowest-build n (λ i. f (suc i))) (sym (low-next (λ i. (f i).turn) n))

pub oldest-slot : (w n : List ℕ) → oldest (slots_of w n) ≡ lowest_ranked_lem w turns slot_count
unfolding slots_of oldest
oldest-slot w n =
    let s = lowest_ranked_lem w turns slot_count in
    let L : Lowest w turns slot_count s = lowest-is w turns last in
    let turn : (i : ℕ) → (slot_of w n i).turn ≡ rank_of w turns i = λ i. word w i turn_word (omega arith) in
    let t = step.lowest_turn (build slot_count (slot_of w n)) in
    let b : t ≡ low (λ i. (slot_of w n i).turn) slot_count = lowest-build last (slot_of w n) in
    let e : t ≡ (slot_of w n s).turn =
    le_antisymm
    (omega (arith, b, low-le (λ i. (slot_of w n i).turn) slot_count s L.inside))
    (omega (arith, b, low_ge (λ i. (slot_of w n i).turn) (slot_of w n s).turn slot_count (least s L 0 (omega arith)) (least s L))) in
    let p : ℕ → Bool = λ i. eqb (slot_of w n i).turn t in
    let none : first_below p s ≡ None = none-below p s (λ i h. ne_eqb (slot_of w n i).turn t (λ q. omega (arith, L.first i h, turn i, turn s, q, e))) in
    ap step.or_zero (first-build (λ (slot : Slot). eqb slot.turn t) slot_count (slot_of w n)
    ∙ ap option_of (first-here p s slot_count L.inside none (eq-eqb (slot_of w n s).turn t (sym e))))
  where
    last : ℕ
    last = slot_count - 1

    least : (s : ℕ) → Lowest w turns slot_count s → (i : ℕ) → i < slot_count → (slot_of w n s).turn ≤ (slot_of w n i).turn
    least s L i h = omega (arith, L.least i h, word w i turn_word (omega arith), word w s turn_word (omega arith))

-- ---- refusal 9, test by test

module _ (w n : List ℕ) (store ledger : ℕ) where
  sound-slots : all_below slot_count (λ s. slot_ok (get_or w room_word 0) (slot_at (slots_of w n) s)) ≡ all_below slot_count (sound_in w (get_or w room_word 0))
  sound-slots = all_cong slot_count (λ i. slot_ok (get_or w room_word 0) (slot_at (slots_of w n) i)) (sound_in w (get_or w room_word 0)) (λ i h.
      ap (slot_ok (get_or w room_word 0)) (slot-at w n i h) ∙ rw (word w i count_word (omega arith), word w i size_word (omega arith)) (go (eqb (at w i count_word) 0) _))
    where
      go : (b c : Bool) → (not (not b) || c) ≡ (b || c)
      go true c = refl
      go false c = refl

  -- the tests in the order of the code
  abbrev pub tests : Bool
  tests =
      eqb (length w) state_words_lem
      && (eqb (length n) name_bytes_lem
      && (eqb store (get_or w store_word 0)
      && (eqb ledger ledger_length
      && (eqb (get_or w room_word 0) (slot_size_of store)
      && (all_below slot_count (sound_in w (get_or w room_word 0))
      && memory_ok (memory_of w))))))

  pub ready-tests : tests ≡ ready w n store ledger
  unfolding sound
  ready-tests = rw sound-slots (and_regroup (eqb (length w) state_words_lem) (eqb (length n) name_bytes_lem) _)
    where
      and_regroup : (a b c : Bool) → (a && (b && c)) ≡ ((a && b) && c)
      and_regroup true b c = refl
      and_regroup false b c = refl

  pub tests-are : (b : Bool) → tests ≡ b → b ≡ ready w n store ledger
  tests-are b e = sym e ∙ ready-tests

-- ---- words and names that are written

-- one slot is another, and the rest are as they were
pub changed-slots : (w n v m : List ℕ) (s : ℕ) (slot : Slot) → s < slot_count → slot_of v m s ≡ slot → ((i : ℕ) → i < slot_count → i ≢ s → slot_of v m i ≡ slot_of w n i)
    → slots_of v m ≡ set (slots_of w n) s slot
unfolding slots_of
changed-slots w n v m s slot h e f = build-is slot_count (slot_of v m) (set (build slot_count (slot_of w n)) s slot) no_slot
    (length-set (build slot_count (slot_of w n)) s slot ∙ length-build slot_count (slot_of w n))
    (λ i k. elim (ℕ_discrete i s) [
      | yes q ↦ rw q (e ∙ sym (get_or-set_same (build slot_count (slot_of w n)) s slot no_slot (omega (arith, length-build slot_count (slot_of w n)))))
      | no q ↦ f i k q ∙ sym (get_or-set_other (build slot_count (slot_of w n)) s i slot no_slot q ∙ get_or-build slot_count (slot_of w n) i no_slot k)
    ])

-- numbers written in the block of slot s
module _ (w : List ℕ) (e : length w ≡ state_words_lem) (s : ℕ) (h : s < slot_count) (j : ℕ) (x : List ℕ) (g : j + length x ≤ block_words) where
  pub block_here : block (overlay w (block_at s + j) x) s ≡ overlay (block w s) j x
  block_here = window_in w (block_at s) j x block_words (omega arith) g

  pub block-other : (i : ℕ) → i ≢ s → block (overlay w (block_at s + j) x) i ≡ block w i
  block-other i d = window-apart w (block_at s + j) x block_words (block_at i) (elim (dec_le i s) [
    | yes q ↦ inl (omega arith)
    | no q ↦ inr (omega arith)
  ])

  pub head-stays : (k : ℕ) → k < head_words → get_or (overlay w (block_at s + j) x) k 0 ≡ get_or w k 0
  head-stays k l = write-out w (block_at s + j) x k (λ p q. omega arith)

  pub memory-stays : memory_of (overlay w (block_at s + j) x) ≡ memory_of w
  memory-stays = ap memory_in (rest-apart w (block_at s + j) x memory_at (omega arith))

-- a name written
module _ (n : List ℕ) (e : length n ≡ name_bytes_lem) (s : ℕ) (h : s < slot_count) (x : List ℕ) (g : length x ≡ max_name) where
  pub name-here : name_in (overlay n (max_name * s) x) s ≡ x
  name-here = ap (λ (k : ℕ). take k (drop (max_name * s) (overlay n (max_name * s) x))) (sym g) ∙ overlay-at n (max_name * s) x (omega arith)

  pub name-other : (i : ℕ) → i ≢ s → name_in (overlay n (max_name * s) x) i ≡ name_in n i
  name-other i d = window-apart n (max_name * s) x max_name (max_name * i) (elim (dec_le i s) [
    | yes q ↦ inl (omega arith)
    | no q ↦ inr (omega arith)
  ])

slot_same : (a b m n : List ℕ) → a ≡ b → m ≡ n → slot_in a m ≡ slot_in b n
slot_same a b m n p q = λ i. slot_in (p i) (q i)

-- both
module _ (w n : List ℕ) (sh : Shaped w n) (s : ℕ) (h : s < slot_count) (j : ℕ) (x : List ℕ) (g : j + length x ≤ block_words) where
  abbrev v : List ℕ
  v = overlay w (block_at s + j) x

  view_of : (m : List ℕ) (slot : Slot) → slots_of v m ≡ set (slots_of w n) s slot → view v m ≡ with_slots (view w n) (set (slots_of w n) s slot) (memory_of w)
  view_of m slot q = rw (head-stays w sh.words s h j x g 0 (omega arith), head-stays w sh.words s h j x g 1 (omega arith), memory-stays w sh.words s h j x g, q)

  -- the block alone
  pub block_view : view v n ≡ with_slots (view w n) (set (slots_of w n) s (slot_in (overlay (block w s) j x) (name_in n s))) (memory_of w)
  block_view = view_of n _ (changed-slots w n v n s _ h (slot_same _ _ _ _ (block_here w sh.words s h j x g) refl)
      (λ i k d. slot_same _ _ _ _ (block-other w sh.words s h j x g i d) refl))

  -- the block and the name
  pub both_view : (y : List ℕ) → length y ≡ max_name
      → view v (overlay n (max_name * s) y) ≡ with_slots (view w n) (set (slots_of w n) s (slot_in (overlay (block w s) j x) y)) (memory_of w)
  both_view y l = view_of (overlay n (max_name * s) y) _ (changed-slots w n v (overlay n (max_name * s) y) s _ h
      (slot_same _ _ _ _ (block_here w sh.words s h j x g) (name-here n sh.bytes s h y l))
      (λ i k d. slot_same _ _ _ _ (block-other w sh.words s h j x g i d) (name-other n sh.bytes s h y l i d)))

  pub written-length : length v ≡ state_words_lem
  written-length = length-overlay w (block_at s + j) x ∙ sh.words

-- ---- turns

set_here : (w : List ℕ) (i j x : ℕ) → j < block_words → block (set w (block_at i + j) x) i ≡ set (block w i) j x
set_here w i j x h = ap (λ (z : List ℕ). take block_words z) (drop-set-add (block_at i) w j x) ∙ take-set-lt block_words (drop (block_at i) w) j x h

set_other : (w : List ℕ) (i n j x : ℕ) → j < block_words → i ≢ n → block (set w (block_at n + j) x) i ≡ block w i
set_other w i n j x h d = elim (dec_le i n) [
  | no g ↦ ap (λ (z : List ℕ). take block_words z) (drop-set-lt (block_at i) w (block_at n + j) x (omega arith))
  | yes g ↦
      let k = block_at n + j - block_at i in
      let e : block_at n + j ≡ block_at i + k = omega arith in
      ap (λ (z : ℕ). take block_words (drop (block_at i) (set w z x))) e
      ∙ ap (λ (z : List ℕ). take block_words z) (drop-set-add (block_at i) w k x)
      ∙ take-set-le block_words (drop (block_at i) w) k x (omega arith)
]

lower_in : (b m : List ℕ) (t : ℕ) → length b ≡ block_words → slot_in (set b turn_word (lower_rank_lem (get_or b count_word 0) t (get_or b turn_word 0))) m ≡ lower t (slot_in b m)
unfolding lower
lower_in b m t e =
    let x = lower_rank_lem (get_or b count_word 0) t (get_or b turn_word 0) in
    rw (
      get_or-set_other b turn_word 0 x 0 (omega arith),
      get_or-set_other b turn_word 1 x 0 (omega arith),
      get_or-set_other b turn_word 2 x 0 (omega arith),
      get_or-set_other b turn_word 3 x 0 (omega arith),
      get_or-set_same b turn_word x 0 (omega arith),
      drop-set-lt held_word b turn_word x (omega arith),
    )

lowered-rest : (w : List ℕ) (t n i : ℕ) → n ≤ i → block (ranks_lowered w turns t n) i ≡ block w i
unfolding ranks_lowered
lowered-rest w t zero i h = refl
lowered-rest w t (suc n) i h = set_other (ranks_lowered w turns t n) i n turn_word _ (omega arith) (λ q. omega arith) ∙ lowered-rest w t n i (omega arith)

lowered-slot : (w m : List ℕ) (t n i : ℕ) → length w ≡ state_words_lem → n ≤ slot_count → i < n → slot_of (ranks_lowered w turns t n) m i ≡ lower t (slot_of w m i)
unfolding ranks_lowered
lowered-slot w m t zero i e l h = absurd (omega arith)
lowered-slot w m t (suc n) i e l h = elim (ℕ_discrete i n) [
  | no q ↦ ap (λ (b : List ℕ). slot_in b (name_in m i)) (set_other (ranks_lowered w turns t n) i n turn_word _ (omega arith) q) ∙ lowered-slot w m t n i e (omega arith) (omega arith)
  | yes q ↦
      let v = ranks_lowered w turns t n in
      rw q (ap (λ (b : List ℕ). slot_in b (name_in m n)) (set_here v n turn_word (lower_rank_lem (at v n count_word) t (at v n turn_word)) (omega arith)
      ∙ ap (λ (k : ℕ). set (block v n) turn_word (lower_rank_lem k t (at v n turn_word))) (sym (word v n count_word (omega arith)))
      ∙ ap (λ (k : ℕ). set (block v n) turn_word (lower_rank_lem (get_or (block v n) count_word 0) t k)) (sym (word v n turn_word (omega arith)))
      ∙ ap (λ (b : List ℕ). set b turn_word (lower_rank_lem (get_or b count_word 0) t (get_or b turn_word 0))) (lowered-rest w t n n (omega arith)))
      ∙ lower_in (block w n) (name_in m n) t (window-length block_words (block_at n) w (omega arith)))
]

pub lowered-slots : (w m : List ℕ) (t : ℕ) → length w ≡ state_words_lem → slots_of (ranks_lowered w turns t slot_count) m ≡ map (lower t) (slots_of w m)
unfolding slots_of
lowered-slots w m t e = build-is slot_count (slot_of (ranks_lowered w turns t slot_count) m) (map (lower t) (build slot_count (slot_of w m))) (lower t no_slot)
    (length-map (build slot_count (slot_of w m)) (lower t) ∙ length-build slot_count (slot_of w m))
    (λ i k. lowered-slot w m t slot_count i e (omega arith) k
    ∙ sym (get_or-map (lower t) (build slot_count (slot_of w m)) i no_slot ∙ ap (lower t) (get_or-build slot_count (slot_of w m) i no_slot k)))

lowered-head : (v : List ℕ) (t n k : ℕ) → k < head_words → get_or (ranks_lowered v turns t n) k 0 ≡ get_or v k 0
unfolding ranks_lowered
lowered-head v t zero k h = refl
lowered-head v t (suc n) k h = get_or-set_other (ranks_lowered v turns t n) (block_at n + turn_word) k _ 0 (λ q. omega arith) ∙ lowered-head v t n k h

lowered-tail : (v : List ℕ) (t n : ℕ) → n ≤ slot_count → drop memory_at (ranks_lowered v turns t n) ≡ drop memory_at v
unfolding ranks_lowered
lowered-tail v t zero h = refl
lowered-tail v t (suc n) h = drop-set-lt memory_at (ranks_lowered v turns t n) (block_at n + turn_word) _ (omega arith) ∙ lowered-tail v t n (omega arith)

pub lowered-view : (w m : List ℕ) (t : ℕ) → length w ≡ state_words_lem → view (ranks_lowered w turns t slot_count) m ≡ with_slots (view w m) (map (lower t) (slots_of w m)) (memory_of w)
lowered-view w m t e = rw (lowered-head w t slot_count 0 (omega arith), lowered-head w t slot_count 1 (omega arith), lowered-slots w m t e, lowered-tail w t slot_count (omega arith))

-- ---- other words in the place of the memory

module _ (w m : List ℕ) (e : length w ≡ state_words_lem) (f : length m ≡ memory_words) where
  abbrev u : List ℕ
  u = overlay w memory_at m

  memory-new : drop memory_at u ≡ m
  memory-new =
      sym (take_all (length m) (drop memory_at u) (omega (arith, length-drop memory_at u, length-overlay w memory_at m)))
      ∙ overlay-at w memory_at m (omega arith)

  slots-stay : (n : List ℕ) → slots_of u n ≡ slots_of w n
  unfolding slots_of
  slots-stay n = build-is slot_count (slot_of u n) (build slot_count (slot_of w n)) no_slot (length-build slot_count (slot_of w n)) (λ i k.
      slot_same _ _ _ _ (window-apart w memory_at m block_words (block_at i) (inl (omega arith))) refl ∙ sym (get_or-build slot_count (slot_of w n) i no_slot k))

  pub memory-view : (n : List ℕ) → view u n ≡ with_slots (view w n) (slots_of w n) (memory_in m)
  memory-view n = rw (write-out w memory_at m 0 (λ p q. omega arith), write-out w memory_at m 1 (λ p q. omega arith), slots-stay n, memory-new)
