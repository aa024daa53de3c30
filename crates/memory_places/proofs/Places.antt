-- Places in order, and places that are freed. Assumes nothing.
use Rattle.wire.proofs.Basics.{◌∙◌, sym, ◌≡◌, ap, refl, ℕ, ◌≤◌, ◌+◌, ◌<◌, suc, zero, List, [], ◌∷◌, true, Bool, ◌≢◌, length, get_or, length-set, get_or-set_other, get_or-set_same, eqb, leb, eq-eqb, ne_eqb, le-leb}
use Rattle.wire.proofs.Basics.{ℕ_discrete, arith}
use Rattle.std.specs.List.{fold}
use lib.Bits.{bit_or, or_add_and, and_le_l, and_le_r}
use Rattle.memory.specs.Words.{sender_at, used_at, sequences_at, sequences_in, place_in, memory_in, turn_at, memory_words}
use Rattle.steps.proofs.Memories.{forget-at, forget-long}
use Rattle.steps.proofs.Tables.{all_cong, all_of}
use Rattle.steps.specs.Limits.{senders_most, keys_each}
use Rattle.steps.specs.Memory.{Place, place_at, no_place, memory_ok, freed, forget_keys}
use Rattle.steps.specs.Search.{all_below}
use Rattle.wire.proofs.Choices.{pick_all}
use Rattle.wire.specs.Choice.{pick}
use Rattle.words.proofs.Builds.{length-build, get_or-build, build-is}
use Rattle.words.specs.Builds.{build}
use Rattle.memory.proofs.Views.{place-eq, shows, memory-long, place-shown}
use Rattle.memory_places.specs.Inside.{freed_at, freed_in}

-- ---- refusal 9

-- not over 32 sequences count at place i
abbrev pub few_at : List ℕ → ℕ → Bool
few_at w i = leb (get_or w (used_at i) 0) keys_each

pub ok-is : (w : List ℕ) → memory_ok (memory_in w) ≡ all_below senders_most (few_at w)
unfolding memory_ok memory_in
ok-is w = all_cong senders_most (λ i. leb (place_at (build senders_most (place_in w)) i).used keys_each) (few_at w)
    (λ i b. ap (λ (p : Place). leb p.used keys_each) (get_or-build senders_most (place_in w) i no_place b))

-- no number is above all its bits with those of others
or_above : (a b : ℕ) → (a ≤ bit_or a b) × (b ≤ bit_or a b)
or_above a b = (omega (arith, or_add_and a b, and_le_r a b), omega (arith, or_add_and a b, and_le_l a b))

-- none of the numbers, and not what was before them, is above all their bits together
pub all_bits : (xs : List ℕ) (a : ℕ) → (a ≤ fold bit_or a xs) × ((i : ℕ) → i < length xs → get_or xs i 0 ≤ fold bit_or a xs)
all_bits [] a = (omega arith, λ i h. absurd (omega arith))
all_bits (x ∷ xs) a = let h = all_bits xs (bit_or a x) in (omega (arith, h.0, (or_above a x).0), go h)
  where
    go : (bit_or a x ≤ fold bit_or (bit_or a x) xs) × ((i : ℕ) → i < length xs → get_or xs i 0 ≤ fold bit_or (bit_or a x) xs)
        → (i : ℕ) → i < suc (length xs) → get_or (x ∷ xs) i 0 ≤ fold bit_or (bit_or a x) xs
    go h zero l = omega (arith, h.0, (or_above a x).1)
    go h (suc i) l = h.1 i (omega arith)

pub all-few : (w : List ℕ) (r : ℕ) → ((i : ℕ) → i < senders_most → get_or w (used_at i) 0 ≤ r) → r ≤ keys_each → memory_ok (memory_in w) ≡ true
all-few w r f h = ok-is w ∙ all_of senders_most (few_at w) (λ i l. le-leb (get_or w (used_at i) 0) keys_each (omega (arith, f i l)))

-- ---- places that are freed

pub freed-none : (w : List ℕ) (s : ℕ) → w ≡ freed_in w s 0
unfolding freed_in
freed-none w s = refl

pub freed-more : (w v u : List ℕ) (s i : ℕ) → v ≡ freed_in w s i → u ≡ freed_at v s i → u ≡ freed_in w s (i + 1)
unfolding freed_in
freed-more w v u s i e f =
    let p : i + 1 ≡ suc i = omega arith in
    rw (f, e, p)

pub freed-length : (w : List ℕ) (s n : ℕ) → length (freed_in w s n) ≡ length w
unfolding freed_in
freed-length w s zero = refl
freed-length w s (suc n) = pick_all (λ (v : List ℕ). length v ≡ length w) (eqb (get_or (freed_in w s n) (sender_at n) 0) s)
    (λ e. length-set (freed_in w s n) (used_at n) 0 ∙ freed-length w s n) (λ e. freed-length w s n)

-- ---- a sender is forgotten

freed-out : (w : List ℕ) (s n k : ℕ) → ((j : ℕ) → j < n → k ≢ used_at j) → get_or (freed_in w s n) k 0 ≡ get_or w k 0
unfolding freed_in
freed-out w s zero k h = refl
freed-out w s (suc n) k h =
    pick_all (λ (v : List ℕ). get_or v k 0 ≡ get_or (freed_in w s n) k 0) (eqb (get_or (freed_in w s n) (sender_at n) 0) s)
    (λ z. get_or-set_other (freed_in w s n) (used_at n) k 0 0 (h n (omega arith))) (λ z. refl)
    ∙ freed-out w s n k (λ j b. h j (omega arith))

freed_in_lem : (w : List ℕ) (s n j : ℕ) → j < n → n ≤ senders_most → used_at j < length w → get_or (freed_in w s n) (used_at j) 0 ≡ pick (eqb (get_or w (sender_at j) 0) s) 0 (get_or w (used_at j) 0)
unfolding freed_in
freed_in_lem w s zero j h c b = absurd (omega arith)
freed_in_lem w s (suc n) j h c b =
    let its : get_or (freed_in w s n) (sender_at n) 0 ≡ get_or w (sender_at n) 0 = freed-out w s n (sender_at n) (λ x y z. omega arith) in
    elim (ℕ_discrete j n) [
      | yes z ↦ rw z (elim (ℕ_discrete (get_or w (sender_at n) 0) s) [
        | yes y ↦ rw (eq-eqb _ s (its ∙ y), eq-eqb _ s y) (get_or-set_same (freed_in w s n) (used_at n) 0 0 (omega (arith, freed-length w s n, z)))
        | no y ↦ rw (ne_eqb (get_or (freed_in w s n) (sender_at n) 0) s (λ x. y (sym its ∙ x)), ne_eqb (get_or w (sender_at n) 0) s y) (freed-out w s n (used_at n) (λ x k q. omega arith))
      ])
      | no z ↦ pick_all (λ (v : List ℕ). get_or v (used_at j) 0 ≡ get_or (freed_in w s n) (used_at j) 0) (eqb (get_or (freed_in w s n) (sender_at n) 0) s)
          (λ y. get_or-set_other (freed_in w s n) (used_at n) (used_at j) 0 0 (λ x. z (omega arith))) (λ y. refl)
          ∙ freed_in_lem w s n j (omega arith) (omega arith) b
    ]

-- THE LAW of forget
pub forgotten-memory : (w : List ℕ) (s : ℕ) → length w ≡ memory_words → memory_in (freed_in w s senders_most) ≡ forget_keys (memory_in w) s
forgotten-memory w s e = shows (freed_in w s senders_most) (forget_keys (memory_in w) s) (forget-long (memory_in w) s ∙ memory-long w) (λ i b.
    let out : (k : ℕ) → ((j : ℕ) → j < senders_most → k ≢ used_at j) → get_or (freed_in w s senders_most) k 0 ≡ get_or w k 0 = freed-out w s senders_most in
    place-eq (place_in (freed_in w s senders_most) i) (freed s (place_in w i))
    (out (sender_at i) (λ x y z. omega arith))
    (freed_in_lem w s senders_most i b (omega arith) (omega arith))
    (out (turn_at i) (λ x y z. omega arith))
    (build-is keys_each (λ k. get_or (freed_in w s senders_most) (sequences_at i + k) 0) (sequences_in w i) 0 (length-build keys_each (λ k. get_or w (sequences_at i + k) 0))
    (λ k c. out (sequences_at i + k) (λ x y z. omega arith) ∙ sym (get_or-build keys_each (λ k. get_or w (sequences_at i + k) 0) k 0 c)))
    ∙ sym (forget-at (memory_in w) s i (omega (arith, memory-long w)) ∙ ap (freed s) (place-shown w i b)))
