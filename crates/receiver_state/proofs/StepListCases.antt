-- One lemma for each case of the step list, in the terms of the code: what was tested, and what it then comes to.
use Rattle.wire.proofs.Basics.{◌∙◌, sym, ◌≡◌, ap, subst, ℕ, ◌≤◌, ◌+◌, ◌<◌, ◌-◌, ◌*◌, List, true, false, Bool, ◌≢◌, some, none, Option, length, drop, get_or, take, set, eqb, eq-eqb, ne_eqb, arith}
use Rattle.wire.specs.Choice.{pick}
use Rattle.wire.specs.Same.{same}
use Rattle.wire.proofs.Choices.{and-false}
use Rattle.datagram.specs.Limits.{max_payload, max_fragments}
use Rattle.datagram.specs.Read.{part_of}
use Rattle.datagram.specs.Said.{Fragment, fragment_in, says}
use Rattle.datagram.specs.Said as said
use Rattle.datagram.specs.declared.Header.{Header}
use Rattle.datagram.specs.Read.{Good}
use Rattle.steps.specs.Limits.{slot_count, ledger_length}
use Rattle.steps.specs.Search.{all_below}
use Rattle.steps.specs.Held.{held_words, is_held}
use Rattle.steps.specs.Memory.{key_of, is_remembered_lem, memory_ok}
use Rattle.steps.specs.Slots.{Slot, slot_at, find_open_lem, padded, all_held_lem}
use Rattle.steps.specs.Receive.{Machine, with_slots, row, offset_of, length_of, place_of, same_message, same_fragment_lem, agrees, agrees_with_all, again, begin, step2, step3, decide}
use Rattle.steps.proofs.Tables.{all_cong}
use Rattle.steps.proofs.Seats.{set_there}
use Rattle.slots.specs.Words.{block_words, block_at, at, sender_word, sequence_word, size_word, count_word, held_word}
use Rattle.fragment_fit.specs.Fits.{fits_in_lem}
use Rattle.receiver_state.specs.View.{name_in, slots_of, memory_of, view}
use Rattle.receiver_state.specs.Inside.{Shows, Ready}
use Rattle.receiver_state.proofs.Windows.{window_get, window-inner}
use Rattle.receiver_state.proofs.Bridge.{word, slot-at, slots_length}

-- ---- what the words say of slot s

module _ (w n : List ℕ) (s : ℕ) (h : s < slot_count) where
  pub sender-is : at w s sender_word ≡ (slot_at (slots_of w n) s).key.sender
  sender-is = sym (ap (λ (x : Slot). x.key.sender) (slot-at w n s h) ∙ word w s sender_word (omega arith))

  pub sequence-is : at w s sequence_word ≡ (slot_at (slots_of w n) s).key.sequence
  sequence-is = sym (ap (λ (x : Slot). x.key.sequence) (slot-at w n s h) ∙ word w s sequence_word (omega arith))

  pub key-is : key_of (at w s sender_word) (at w s sequence_word) ≡ (slot_at (slots_of w n) s).key
  key-is = λ i. key_of (sender-is i) (sequence-is i)

  pub size_is : at w s size_word ≡ (slot_at (slots_of w n) s).size
  size_is = sym (ap (λ (x : Slot). x.size) (slot-at w n s h) ∙ word w s size_word (omega arith))

  pub count-is : at w s count_word ≡ (slot_at (slots_of w n) s).count
  count-is = sym (ap (λ (x : Slot). x.count) (slot-at w n s h) ∙ word w s count_word (omega arith))

  pub name-is : name_in n s ≡ (slot_at (slots_of w n) s).name
  name-is = sym (ap (λ (x : Slot). x.name) (slot-at w n s h))

  pub held-is : take held_words (drop (block_at s + held_word) w) ≡ (slot_at (slots_of w n) s).held
  held-is = sym (ap (λ (x : Slot). x.held) (slot-at w n s h) ∙ window-inner block_words (block_at s) held_word held_words w (omega arith))

  -- the held words, lent as a part
  pub held-lent : (a e : ℕ) → a ≡ block_at s + held_word → e ≡ a + held_words → take (e - a) (drop a w) ≡ (slot_at (slots_of w n) s).held
  held-lent a e ea ee =
      let p : e - a ≡ held_words = omega arith in
      (λ i. take (p i) (drop (ea i) w)) ∙ held-is

  -- fragment j is held, as asked of the words lent as a part
  pub held-asked : (k j a e : ℕ) (r : Bool) → a ≡ block_at s + held_word → e ≡ a + held_words → k ≡ j → r ≡ is_held (take (e - a) (drop a w)) k
      → is_held (slot_at (slots_of w n) s).held j ≡ r
  held-asked k j a e r ea ee ek er = sym (er ∙ (λ i. is_held (held-lent a e ea ee i) (ek i)))

-- ---- the ledger's row of fragment j of slot s

module _ (ledger : List ℕ) (s k j : ℕ) (e : k ≡ j) where
  abbrev pub row_at : ℕ
  row_at = 2 * max_fragments * s + 2 * k

  pub row_is : row_at ≡ row s j
  row_is = omega arith

  pub offset-is : (x : ℕ) → x ≡ get_or ledger row_at 0 → x ≡ offset_of ledger s j
  offset-is x g = g ∙ ap (λ (i : ℕ). get_or ledger i 0) row_is

  pub length-is : (x : ℕ) → x ≡ get_or ledger (row_at + 1) 0 → x ≡ length_of ledger s j
  length-is x g = g ∙ ap (λ (i : ℕ). get_or ledger (i + 1) 0) row_is

-- ---- the same fragment

module _ (w n : List ℕ) (s : ℕ) (h : s < slot_count) (C : ℕ) (store ledger : List ℕ) (f : Fragment) where
  abbrev its : Slot
  its = slot_at (slots_of w n) s

  abbrev there : Bool
  there = same (take (length f.bytes) (drop (place_of C s f) store)) f.bytes

  pub same-offset : offset_of ledger s f.number ≢ f.offset → same_fragment_lem C store ledger s its f ≡ false
  unfolding same_fragment_lem
  same-offset d = rw (ne_eqb _ _ d)

  module _ (a : offset_of ledger s f.number ≡ f.offset) where
    pub same-long : length_of ledger s f.number ≢ length f.bytes → same_fragment_lem C store ledger s its f ≡ false
    unfolding same_fragment_lem
    same-long d = rw (eq-eqb _ _ a, ne_eqb _ _ d)

    module _ (b : length_of ledger s f.number ≡ length f.bytes) where
      pub same_bytes : there ≡ false → same_fragment_lem C store ledger s its f ≡ false
      unfolding same_fragment_lem
      same_bytes d = rw (eq-eqb _ _ a, eq-eqb _ _ b, d)

      pub same_name : there ≡ true → same_fragment_lem C store ledger s its f ≡ pick (eqb f.number 0) (same (name_in n s) (padded f.name)) true
      unfolding same_fragment_lem
      same_name d = rw (eq-eqb _ _ a, eq-eqb _ _ b, d, name-is w n s h)

-- ---- step 3

module _ (w n : List ℕ) (s : ℕ) (h : s < slot_count) (d : List ℕ) (hd : Header) where
  abbrev slot : Slot
  slot = slot_at (slots_of w n) s

  pub other-size : at w s size_word ≢ hd.size → same_message slot (fragment_in d hd) ≡ false
  other-size e = rw (ne_eqb hd.size slot.size (λ q. e (size_is w n s h ∙ sym q)))

  pub other-count : at w s count_word ≢ hd.count → same_message slot (fragment_in d hd) ≡ false
  other-count e = rw (ne_eqb hd.count slot.count (λ q. e (count-is w n s h ∙ sym q))) (and-false (eqb hd.size slot.size))

  pub same-both : at w s size_word ≡ hd.size → at w s count_word ≡ hd.count → same_message slot (fragment_in d hd) ≡ true
  same-both a b = rw (eq-eqb hd.size slot.size (sym a ∙ size_is w n s h), eq-eqb hd.count slot.count (sym b ∙ count-is w n s h))

  -- beside every held fragment, by the slot's part of the ledger
  pub agree-all : (ledger hl : List ℕ) (from to k : ℕ) → hl ≡ slot.held → length ledger ≡ ledger_length → hd.count ≤ max_fragments → at w s count_word ≡ hd.count
      → from ≡ 2 * max_fragments * s → to ≡ from + 2 * max_fragments → k ≡ length (part_of d hd.payload)
      → all_below hd.count (fits_in_lem hl (take (to - from) (drop from ledger)) hd.number hd.offset k)
      ≡ agrees_with_all ledger s slot (fragment_in d hd)
  unfolding agrees
  agree-all ledger hl from to k eh l few c ef et ek =
      let p : to - from ≡ 2 * max_fragments = omega arith in
      ap (λ (x : ℕ). all_below x (fits_in_lem hl (take (to - from) (drop from ledger)) hd.number hd.offset k)) (sym c ∙ count-is w n s h)
      ∙ all_cong slot.count _ _ (λ j b.
      let g : j < max_fragments = omega (arith, b, c, few, count-is w n s h) in
      let r : from + 2 * j ≡ row s j = omega arith in
      let r' : from + (2 * j + 1) ≡ row s j + 1 = omega arith in
      let o : get_or (take (to - from) (drop from ledger)) (2 * j) 0 ≡ offset_of ledger s j = window_get (to - from) from ledger (2 * j) (omega arith) ∙ ap (λ (x : ℕ). get_or ledger x 0) r in
      let m : get_or (take (to - from) (drop from ledger)) (2 * j + 1) 0 ≡ length_of ledger s j = window_get (to - from) from ledger (2 * j + 1) (omega arith) ∙ ap (λ (x : ℕ). get_or ledger x 0) r' in
      rw (o, m, eh, ek))

-- ---- steps 1 to 4

module _ (m : Machine) (store ledger : List ℕ) (sender : ℕ) (d : List ℕ) (h : Header) where
  pub decide-again : is_remembered_lem m.memory (key_of sender h.sequence) ≡ true → decide m store ledger sender (says d (Good h)) ≡ again
  unfolding decide
  decide-again e = go h.small
    where
      go : (b : Bool) → decide m store ledger sender (pick b (said.small h.sequence (part_of d h.name) (part_of d h.payload)) (said.fragment (fragment_in d h))) ≡ again
      go true = rw e
      go false = rw e

  pub decide-small : is_remembered_lem m.memory (key_of sender h.sequence) ≡ false → h.small ≡ true → (o : Option ℕ) → find_open_lem m.slots (key_of sender h.sequence) ≡ o
      → decide m store ledger sender (says d (Good h)) ≡ step2 o (part_of d h.name) (part_of d h.payload)
  unfolding decide
  decide-small e s o q = rw s (rw (e, q))

  pub decide-begin : is_remembered_lem m.memory (key_of sender h.sequence) ≡ false → h.small ≡ false → find_open_lem m.slots (key_of sender h.sequence) ≡ none
      → decide m store ledger sender (says d (Good h)) ≡ begin (fragment_in d h)
  unfolding decide
  decide-begin e s q = rw s (rw (e, q))

  pub decide-open : (i : ℕ) → is_remembered_lem m.memory (key_of sender h.sequence) ≡ false → h.small ≡ false → find_open_lem m.slots (key_of sender h.sequence) ≡ some i
      → decide m store ledger sender (says d (Good h)) ≡ step3 m.slot_size_lem store ledger i (slot_at m.slots i) (fragment_in d h)
  unfolding decide
  decide-open i e s q = rw s (rw (e, q))

-- ---- step 5

-- all are held, as the words say once the fragment is kept
pub held_all_lem : (w n w1 n1 : List ℕ) (s : ℕ) (x : Slot) (a e c : ℕ) (r : Bool) → s < slot_count → a ≡ block_at s + held_word → e ≡ a + held_words
    → Shows (with_slots (view w n) (set (slots_of w n) s x) (memory_of w)) w1 n1
    → c ≡ at w1 s count_word → r ≡ all_below c (is_held (take (e - a) (drop a w1))) → all_held_lem x ≡ r
held_all_lem w n w1 n1 s x a e c r h ea ee k ec er =
    let q : slot_at (slots_of w1 n1) s ≡ x = ap (λ (m : Machine). slot_at m.slots s) k.machine ∙ set_there (slots_of w n) s x (slots_length w n) h in
    sym (er ∙ (λ i. all_below ((ec ∙ count-is w1 n1 s h) i) (is_held (held-lent w1 n1 s h a e ea ee i))) ∙ ap all_held_lem q)

-- ---- what stays while slots change

pub ready-after : (w n w1 n1 : List ℕ) (slots : List Slot) → Shows (with_slots (view w n) slots (memory_of w)) w1 n1 → Ready w n → Ready w1 n1
ready-after w n w1 n1 slots k r = record {
  shape = k.shape;
  known = ap (λ (m : Machine). memory_ok m.memory) k.machine ∙ r.known;
  room = subst (λ (x : ℕ). x ≤ max_payload) (sym (ap (λ (m : Machine). m.slot_size_lem) k.machine)) r.room;
}
