-- The bridge loses nothing: states and names of the right lengths that show the same machine are the same. So no second outcome satisfies a contract.
use Rattle.wire.proofs.Basics.{◌∙◌, sym, ◌≡◌, ap, ℕ, ◌≤◌, ◌+◌, ◌<◌, ◌-◌, suc, zero, ◌*◌, List, true, length, drop, get_or, take, length-drop, get_or-drop, ext_get_or, ℕ_discrete, dec_le, arith}
use Rattle.datagram.specs.Limits.{max_name}
use Rattle.steps.specs.Limits.{slot_count}
use Rattle.steps.specs.Held.{held_words}
use Rattle.steps.specs.Slots.{Slot, slot_at}
use Rattle.steps.specs.Receive.{Machine}
use Rattle.slots.specs.Words.{head_words, block_words, block_at, held_word}
use Rattle.receiver_state.specs.View.{memory_at, state_words_lem, block, slot_of, view, shaped}
use Rattle.receiver_state.specs.Inside.{Shaped}
use Rattle.receiver_state.proofs.Windows.{window_get, window-inner}
use Rattle.receiver_state.proofs.Bridge.{slot-at, word}
use Rattle.receiver_state.proofs.Remembers.{memory-once}

-- words and names that are as long have their lengths as well
pub shaped-still : (w n w' n' : List ℕ) → length w' ≡ length w → length n' ≡ length n → shaped w n ≡ true → shaped w' n' ≡ true
shaped-still w n w' n' a b e = rw (a, b) e

-- elements of equal windows
range : (n d k : ℕ) (a b : List ℕ) → take n (drop d a) ≡ take n (drop d b) → d ≤ k → k < d + n → get_or a k 0 ≡ get_or b k 0
range n d k a b e g h =
    let p : d + (k - d) ≡ k = omega arith in
    ap (λ i. get_or a i 0) (sym p) ∙ sym (window_get n d a (k - d) (omega arith)) ∙ ap (λ (l : List ℕ). get_or l (k - d) 0) e ∙ window_get n d b (k - d) (omega arith) ∙ ap (λ i. get_or b i 0) p

module _ (w n v m : List ℕ) (p : Shaped w n) (q : Shaped v m) (e : view w n ≡ view v m) where
  slot_same : (i : ℕ) → i < slot_count → slot_of w n i ≡ slot_of v m i
  slot_same i h = sym (slot-at w n i h) ∙ ap (λ (x : Machine). slot_at x.slots i) e ∙ slot-at v m i h

  module _ (i : ℕ) (h : i < slot_count) where
    word_same : (j : ℕ) → j < block_words → get_or w (block_at i + j) 0 ≡ get_or v (block_at i + j) 0
    word_same j g = elim (dec_le held_word j) [
      | yes z ↦
          let r : take held_words (drop (block_at i + held_word) w) ≡ take held_words (drop (block_at i + held_word) v) =
          sym (window-inner block_words (block_at i) held_word held_words w (omega arith)) ∙ ap (λ (s : Slot). s.held) (slot_same i h) ∙ window-inner block_words (block_at i) held_word held_words v (omega arith) in
          range held_words (block_at i + held_word) (block_at i + j) w v r (omega arith) (omega arith)
      | no z ↦ sym (word w i j g) ∙ low j (omega arith) ∙ word v i j g
    ]
      where
        low : (j : ℕ) → j < held_word → get_or (block w i) j 0 ≡ get_or (block v i) j 0
        low zero k = ap (λ (s : Slot). s.key.sender) (slot_same i h)
        low (suc zero) k = ap (λ (s : Slot). s.key.sequence) (slot_same i h)
        low (suc (suc zero)) k = ap (λ (s : Slot). s.size) (slot_same i h)
        low (suc (suc (suc zero))) k = ap (λ (s : Slot). s.count) (slot_same i h)
        low (suc (suc (suc (suc zero)))) k = ap (λ (s : Slot). s.turn) (slot_same i h)
        low (suc (suc (suc (suc (suc j))))) k = absurd (let z : ⊥ = omega arith in z)

  in-slots : (k a : ℕ) → a ≤ slot_count → head_words ≤ k → k < block_at a → get_or w k 0 ≡ get_or v k 0
  in-slots k zero h g l = absurd (omega arith)
  in-slots k (suc a) h g l = elim (dec_le (block_at a) k) [
    | yes z ↦
        let r : block_at a + (k - block_at a) ≡ k = omega arith in
        ap (λ i. get_or w i 0) (sym r) ∙ word_same a (omega arith) (k - block_at a) (omega arith) ∙ ap (λ i. get_or v i 0) r
    | no z ↦ in-slots k a (omega arith) g (omega arith)
  ]

  memory-same : drop memory_at w ≡ drop memory_at v
  memory-same = memory-once (drop memory_at w) (drop memory_at v) (omega (arith, length-drop memory_at w, p.words)) (omega (arith, length-drop memory_at v, q.words)) (ap (λ (x : Machine). x.memory) e)

  each : (k : ℕ) → k < state_words_lem → get_or w k 0 ≡ get_or v k 0
  each k h = elim (dec_le memory_at k) [
    | yes g ↦
        let r : memory_at + (k - memory_at) ≡ k = omega arith in
        ap (λ j. get_or w j 0) (sym r) ∙ sym (get_or-drop memory_at w (k - memory_at) 0) ∙ ap (λ (l : List ℕ). get_or l (k - memory_at) 0) memory-same ∙ get_or-drop memory_at v (k - memory_at) 0 ∙ ap (λ j. get_or v j 0) r
    | no g ↦ elim (dec_le head_words k) [
      | yes z ↦ in-slots k slot_count (omega arith) z (omega arith)
      | no z ↦ elim (ℕ_discrete k 0) [
        | yes r ↦ rw r (ap (λ (x : Machine). x.store_length) e)
        | no r ↦
            let o : k ≡ 1 = omega arith in
            rw o (ap (λ (x : Machine). x.slot_size_lem) e)
      ]
    ]
  ]

  pub words_same : w ≡ v
  words_same = ext_get_or 0 w v (p.words ∙ sym q.words) (λ k h. each k (omega (arith, p.words)))

  in-names : (k a : ℕ) → a ≤ slot_count → k < max_name * a → get_or n k 0 ≡ get_or m k 0
  in-names k zero h l = absurd (omega arith)
  in-names k (suc a) h l = elim (dec_le (max_name * a) k) [
    | yes z ↦ range max_name (max_name * a) k n m (ap (λ (s : Slot). s.name) (slot_same a (omega arith))) z (omega arith)
    | no z ↦ in-names k a (omega arith) (omega arith)
  ]

  pub names_same : n ≡ m
  names_same = ext_get_or 0 n m (p.bytes ∙ sym q.bytes) (λ k h. in-names k slot_count (omega arith) (omega (arith, p.bytes)))
