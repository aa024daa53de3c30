-- One lemma for each change of the state: what the words and names hold then shows the machine that the step list gives.
use Rattle.wire.proofs.Basics.{◌∙◌, sym, ◌≡◌, ap, refl, ℕ, ◌≤◌, ◌+◌, ◌<◌, ◌-◌, suc, zero, ◌*◌, List, ◌++◌, map, true, false, Bool, length, drop, get_or, take, length-append, set, replicate}
use Rattle.wire.proofs.Basics.{length-replicate, eqb, arith}
use native.Mathlib.Numerals.{unary_clauses}
use native.Mathlib.Nat.{mul-le-mul_right}
use Rattle.wire.specs.Choice.{pick}
use Rattle.wire.specs.Overlay.{overlay}
use Rattle.wire.proofs.Overlays.{overlay-at, overlay-eq, length-overlay, overlay-whole}
use Rattle.datagram.specs.Limits.{max_name, max_payload}
use Rattle.datagram.specs.Read.{part_of}
use Rattle.datagram.specs.Said.{Fragment, fragment_in}
use Rattle.datagram.specs.declared.Header.{Header}
use Rattle.datagram.specs.declared.Place.{Place}
use Rattle.steps.specs.Limits.{slot_count}
use Rattle.steps.specs.Search.{count}
use Rattle.steps.specs.Held.{held_words, none_held, hold}
use Rattle.steps.specs.Memory.{key_of}
use Rattle.steps.specs.Slots.{Slot, no_name_lem, padded, no_slot, slot_at, lower, release, opening, filled}
use Rattle.steps.specs.Receive.{Machine, with_slots}
use Rattle.steps.proofs.Helds.{hold-length}
use Rattle.steps.proofs.Stores.{write-out}
use Rattle.ranks.specs.Ranks.{ranks_lowered}
use Rattle.ranks.proofs.Ranks.{lowered-length}
use Rattle.slots.specs.Words.{block_words, block_at, turns, at, sender_word, sequence_word, size_word, count_word, turn_word, held_word, busy_in}
use Rattle.receiver_state.specs.View.{state_words_lem, name_bytes_lem, block, name_in, slot_in, slot_of, slots_of, memory_of, view}
use Rattle.receiver_state.specs.Inside.{Shaped, Shows, named_in}
use Rattle.receiver_state.proofs.Windows.{window-length, window-inner, part-back}
use Rattle.receiver_state.proofs.Bridge.{word, slot-at, open-many, block_view, both_view, lowered-view}

-- ---- names

drop-replicate : (n m x : ℕ) → drop n (replicate m x) ≡ replicate (m - n) x
drop-replicate zero m x = simp unary_clauses
drop-replicate (suc n) zero x = let e : 0 - suc n ≡ 0 = omega arith in rw e
drop-replicate (suc n) (suc m) x = simp unary_clauses (drop-replicate n m x)

-- a name with zeros after it
pub padded-is : (nm : List ℕ) → length nm ≤ max_name → overlay (replicate max_name 0) 0 nm ≡ padded nm
padded-is nm h =
    let e : 0 + length nm ≡ length nm = omega arith in
    overlay-eq (replicate max_name 0) 0 nm (omega arith) ∙ ap (λ (k : ℕ). nm ++ drop k (replicate max_name 0)) e ∙ ap (λ (l : List ℕ). nm ++ l) (drop-replicate (length nm) max_name 0)

pub padded-length : (nm : List ℕ) → length nm ≤ max_name → length (padded nm) ≡ max_name
padded-length nm h = omega (arith, length-append nm (replicate (max_name - length nm) 0), length-replicate {A = ℕ} (max_name - length nm) 0)

-- the name of a header, with zeros after it
module _ (d : List ℕ) (p : Place) (short : length (part_of d p) ≤ max_name) (x z : List ℕ) (ex : x ≡ part_of d p) (ez : z ≡ overlay (replicate max_name 0) 0 x) where
  pub name-filled : z ≡ padded (part_of d p)
  name-filled = ez ∙ ap (overlay (replicate max_name 0) 0) ex ∙ padded-is (part_of d p) short

  pub name-long : length z ≡ max_name
  name-long = ap length name-filled ∙ padded-length (part_of d p) short

-- ---- a slot is freed, or taken

-- the words of a slot just opened: no fragment is held
abbrev pub open_block : ℕ → ℕ → ℕ → ℕ → ℕ → List ℕ
open_block a q z c t = set (set (set (set (set (replicate block_words 0) sender_word a) sequence_word q) size_word z) count_word c) turn_word t

module _ (w n : List ℕ) (sh : Shaped w n) (s : ℕ) (h : s < slot_count) where
  -- a whole block and name
  whole-view : (x y : List ℕ) → length x ≡ block_words → length y ≡ max_name
      → view (overlay w (block_at s) x) (overlay n (max_name * s) y) ≡ with_slots (view w n) (set (slots_of w n) s (slot_in x y)) (memory_of w)
  whole-view x y l k =
      let e : block_at s ≡ block_at s + 0 = omega arith in
      ap (λ (a : ℕ). view (overlay w a x) (overlay n (max_name * s) y)) e
      ∙ both_view w n sh s h 0 x (omega arith) y k
      ∙ ap (λ (b : List ℕ). with_slots (view w n) (set (slots_of w n) s (slot_in b y)) (memory_of w)) (overlay-whole (block w s) x (l ∙ sym (window-length block_words (block_at s) w (omega (arith, sh.words)))))

  turn_is : at w s turn_word ≡ (slot_at (slots_of w n) s).turn
  turn_is = sym (ap (λ (x : Slot). x.turn) (slot-at w n s h) ∙ word w s turn_word (omega arith))

  zero-slot : slot_in (replicate block_words 0) no_name_lem ≡ no_slot
  unfolding none_held
  zero-slot = refl

  pub released : (t : ℕ) (w1 w2 n1 : List ℕ) → t ≡ at w s turn_word → w1 ≡ overlay w (block_at s) (replicate block_words 0) → w2 ≡ ranks_lowered w1 turns t slot_count
      → n1 ≡ overlay n (max_name * s) no_name_lem → Shows (with_slots (view w n) (release (slots_of w n) s) (memory_of w)) w2 n1
  unfolding release
  released t w1 w2 n1 et e1 e2 e3 =
      let l1 : length w1 ≡ state_words_lem = ap length e1 ∙ length-overlay w (block_at s) (replicate block_words 0) ∙ sh.words in
      let one : view w1 n1 ≡ with_slots (view w n) (set (slots_of w n) s no_slot) (memory_of w) =
      (λ i. view (e1 i) (e3 i)) ∙ whole-view (replicate block_words 0) no_name_lem refl refl
      ∙ ap (λ (x : Slot). with_slots (view w n) (set (slots_of w n) s x) (memory_of w)) zero-slot in
      record {
        machine = ap (λ (x : List ℕ). view x n1) e2 ∙ lowered-view w1 n1 t l1
            ∙ ap (λ (m : Machine). with_slots m (map (lower t) m.slots) m.memory) one
            ∙ ap (λ (x : ℕ). with_slots (view w n) (map (lower x) (set (slots_of w n) s no_slot)) (memory_of w)) (et ∙ turn_is);
        shape = record { words = ap length e2 ∙ lowered-length w1 turns t slot_count ∙ l1; bytes = ap length e3 ∙ length-overlay n (max_name * s) no_name_lem ∙ sh.bytes };
      }

  pub occupied : (f : Fragment) (a q z c t : ℕ) (w1 n1 : List ℕ) → z ≡ f.size → c ≡ f.count → t ≡ count (busy_in w) slot_count
      → w1 ≡ overlay w (block_at s) (open_block a q z c t) → n1 ≡ overlay n (max_name * s) no_name_lem
      → Shows (with_slots (view w n) (set (slots_of w n) s (opening (slots_of w n) (key_of a q) f)) (memory_of w)) w1 n1
  unfolding none_held opening
  occupied f a q z c t w1 n1 ez ec et e1 e3 = record {
    machine = (λ i. view (e1 i) (e3 i)) ∙ whole-view (open_block a q z c t) no_name_lem refl refl
        ∙ (λ i. with_slots (view w n) (set (slots_of w n) s (record { key = key_of a q; size = ez i; count = ec i; turn = (et ∙ sym (open-many w n)) i; name = no_name_lem; held = none_held })) (memory_of w));
    shape = record { words = ap length e1 ∙ length-overlay w (block_at s) _ ∙ sh.words; bytes = ap length e3 ∙ length-overlay n (max_name * s) no_name_lem ∙ sh.bytes };
  }

  -- ---- a fragment is held

  -- a block with other held words
  held-slot : (x y : List ℕ) → length x ≡ held_words → slot_in (overlay (block w s) held_word x) y ≡ record { key = (slot_of w n s).key; size = (slot_of w n s).size; count = (slot_of w n s).count; turn = (slot_of w n s).turn; name = y; held = x }
  held-slot x y l =
      let b = block w s in
      let lb : length b ≡ block_words = window-length block_words (block_at s) w (omega (arith, sh.words)) in
      let o : (k : ℕ) → k < held_word → get_or (overlay b held_word x) k 0 ≡ get_or b k 0 = λ k g. write-out b held_word x k (λ p q. omega arith) in
      let t : take held_words (drop held_word (overlay b held_word x)) ≡ x = ap (λ (k : ℕ). take k (drop held_word (overlay b held_word x))) (sym l) ∙ overlay-at b held_word x (omega arith) in
      rw (o 0 (omega arith), o 1 (omega arith), o 2 (omega arith), o 3 (omega arith), o 4 (omega arith), t)

  held-part : take held_words (drop (block_at s + held_word) w) ≡ (slot_of w n s).held
  held-part = sym (window-inner block_words (block_at s) held_word held_words w (omega arith))

  module _ (d : List ℕ) (hd : Header) (short : length (part_of d hd.name) ≤ max_name) where
    abbrev x : List ℕ
    x = hold (slot_of w n s).held hd.number

    x-length : length x ≡ held_words
    x-length = hold-length (slot_of w n s).held hd.number ∙ ap length (sym held-part) ∙ window-length held_words (block_at s + held_word) w (omega (arith, sh.words))

    abbrev v : List ℕ
    v = overlay w (block_at s + held_word) x

    filled_is : (y : List ℕ) → y ≡ pick (eqb hd.number 0) (padded (part_of d hd.name)) (name_in n s)
        → slot_in (overlay (block w s) held_word x) y ≡ filled (slot_at (slots_of w n) s) (fragment_in d hd)
    unfolding filled
    filled_is y e = held-slot x y x-length ∙ rw (slot-at w n s h, e)

    kept-view : (b : Bool) → eqb hd.number 0 ≡ b
        → view v (pick b (overlay n (max_name * s) (padded (part_of d hd.name))) n)
        ≡ with_slots (view w n) (set (slots_of w n) s (filled (slot_at (slots_of w n) s) (fragment_in d hd))) (memory_of w)
    kept-view true e =
        both_view w n sh s h held_word x (omega (arith, x-length)) (padded (part_of d hd.name)) (padded-length (part_of d hd.name) short)
        ∙ ap (λ (z : Slot). with_slots (view w n) (set (slots_of w n) s z) (memory_of w)) (filled_is (padded (part_of d hd.name)) (rw e))
    kept-view false e =
        block_view w n sh s h held_word x (omega (arith, x-length))
        ∙ ap (λ (z : Slot). with_slots (view w n) (set (slots_of w n) s z) (memory_of w)) (filled_is (name_in n s) (rw e))

    named-length : length (named_in n s hd d) ≡ name_bytes_lem
    named-length = go (eqb hd.number 0)
      where
        go : (b : Bool) → length (pick b (overlay n (max_name * s) (padded (part_of d hd.name))) n) ≡ name_bytes_lem
        go true = length-overlay n (max_name * s) (padded (part_of d hd.name)) ∙ sh.bytes
        go false = sh.bytes

    -- the held words lent as a part and given back
    pub kept : (y w1 n1 : List ℕ) (k e a : ℕ) → a ≡ block_at s + held_word → e ≡ a + held_words → k ≡ hd.number
        → y ≡ hold (take (e - a) (drop a w)) k → w1 ≡ take a w ++ (y ++ drop (e - a) (drop a w)) → n1 ≡ named_in n s hd d
        → Shows (with_slots (view w n) (set (slots_of w n) s (filled (slot_at (slots_of w n) s) (fragment_in d hd))) (memory_of w)) w1 n1
    kept y w1 n1 k e a ea ee ek ey ew en =
        let p : e - a ≡ held_words = omega arith in
        let r : y ≡ x = ey ∙ (rw (p, ea, ek, held-part)) in
        let l : length y ≡ e - a = ap length r ∙ x-length ∙ sym p in
        let q : w1 ≡ v = ew ∙ part-back a e w y (omega arith) (omega (arith, sh.words)) l ∙ (λ i. overlay w (ea i) (r i)) in
        record {
          machine = (λ i. view (q i) (en i)) ∙ kept-view (eqb hd.number 0) refl;
          shape = record { words = ap length q ∙ length-overlay w (block_at s + held_word) x ∙ sh.words; bytes = ap length en ∙ named-length };
        }

-- ---- where a slot's part of the store begins

pub place-small : (s room : ℕ) → s < slot_count → room ≤ max_payload → s * room ≤ slot_count * max_payload
place-small s room h g =
    let le : s ≤ slot_count = omega arith in
    let z : s * room ≤ slot_count * room = mul-le-mul_right room le in
    omega arith
