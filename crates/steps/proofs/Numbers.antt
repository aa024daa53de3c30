-- The numbers of refusal: the reader gives 1 to 7, the steps give 8, and 9 is given exactly when its list says.
use Rattle.wire.proofs.Basics.{◌∙◌, sym, ◌≡◌, ap, refl, subst, ℕ, ◌≤◌, ◌+◌, ◌<◌, List, true, false, Bool, ◌&&◌, ◌||◌, not, inl, inr, ◌≢◌, ◌⊎◌, some, none, Option, length, drop, eqb, ltb, leb, lit≤}
use Rattle.wire.proofs.Basics.{ne_eqb, not-false, lt-leb, eqb-false, leb-false, arith}
use mathlib.Core.Logic.{◌↔◌}
use Rattle.wire.specs.Choice.{pick}
use Rattle.wire.proofs.Choices.{either, and-false, or_l, or_r, pick_all}
use Rattle.datagram.specs.Limits.{max_datagram, max_fragments}
use Rattle.datagram.specs.Name.{name_length_lem}
use Rattle.datagram.specs.Read.{magic_in, small_magic, fragment_magic, size_in, number_in, count_in, place, good_form, fragment_header, formed, zero_to, small_to, read_small_lem, read_fragment_lem, read_datagram_lem, part_of}
use Rattle.datagram.specs.Said.{Fragment, Said, refused, small, fragment, fragment_in, says, said}
use Rattle.std.proofs.Common.{Option as Maybe, Some, None}
use Rattle.datagram.specs.declared.Place.{Place}
use Rattle.datagram.specs.declared.Header.{Header}
use Rattle.datagram.specs.Read.{Read}
use Rattle.datagram.specs.Read as read
use Rattle.steps.specs.Limits.{slot_count, senders_most, keys_each, ledger_length, slot_size_of}
use Rattle.steps.specs.Search.{all_below}
use Rattle.steps.specs.Held.{is_held}
use Rattle.steps.specs.Memory.{Key, key_of, Memory, place_at, is_remembered_lem, memory_ok}
use Rattle.steps.specs.Slots.{Slot, busy, slot_at, find_open_lem, filled, all_held_lem, Emptied, Nobody}
use Rattle.steps.specs.Receive.{Machine, After, Answer, Refused, Kept, Repeat, Delivered, stay, Verdict, refuse, again, deliver, join, begin, same_message, same_fragment_lem, agrees_with_all, step2, step3, step3or4, decide, step5, act, receive, slot_ok, sound, step, forget}
use Rattle.steps.specs.Promises.{Crowded, by-senders, by-keys, Unfit, by-store, by-ledger, by-slot-size, by-slot, by-memory}
use Rattle.steps.proofs.Tables.{and_no, and_none, all_none, all-not, clash-none}
use Rattle.steps.proofs.Branches.{step-unsound, step-sound, step5-delivered, step5-kept}

-- ---- what the reader gives

abbrev ForForm : ℕ → Type 0
ForForm n = (1 ≤ n) × (n ≤ 7)

abbrev Numbered : Read → Type 0
Numbered (read.Good h) = Unit {0}
Numbered (read.Refused n) = ForForm n

module _ (d : List ℕ) where
  small-number : (r : Maybe ℕ) → Numbered (small_to d r)
  small-number None = (lit≤ tt, lit≤ tt)
  small-number (Some c) = tt

  formed-number : (name : Place) (at : ℕ) → Numbered (formed d name at)
  unfolding formed
  formed-number name at = pick_all Numbered (good_form (fragment_header d name at)) (λ e. tt) (λ e. (lit≤ tt, lit≤ tt))

  zero_number : (r : Maybe ℕ) → Numbered (zero_to d r)
  zero_number None = (lit≤ tt, lit≤ tt)
  zero_number (Some c) = formed-number (place 20 c) (21 + c)

  fragment-number : (C N : ℕ) → Numbered (read_fragment_lem C N d)
  unfolding read_fragment_lem
  fragment-number C N =
      pick_all Numbered (eqb (count_in d) 0 || (ltb N (count_in d) || leb (count_in d) (number_in d))) (λ e. (lit≤ tt, lit≤ tt)) (λ e.
      pick_all Numbered (ltb C (size_in d)) (λ e. (lit≤ tt, lit≤ tt)) (λ e.
      pick_all Numbered (eqb (number_in d) 0) (λ e. zero_number (name_length_lem (drop 20 d))) (λ e. formed-number (place 20 0) 20)))

  read_number : (C N : ℕ) → Numbered (read_datagram_lem C N d)
  unfolding read_datagram_lem read_small_lem
  read_number C N =
      pick_all Numbered (ltb max_datagram (length d)) (λ e. (lit≤ tt, lit≤ tt)) (λ e.
      pick_all Numbered (ltb (length d) 8) (λ e. (lit≤ tt, lit≤ tt)) (λ e.
      pick_all Numbered (eqb (magic_in d) small_magic) (λ e. small-number (name_length_lem (drop 8 d))) (λ e.
      pick_all Numbered (eqb (magic_in d) fragment_magic)
      (λ e. pick_all Numbered (ltb (length d) 20) (λ e. (lit≤ tt, lit≤ tt)) (λ e. fragment-number C N))
      (λ e. (lit≤ tt, lit≤ tt)))))

  -- a refusal of the reader has a number from 1 to 7
  pub said-number : (C N n : ℕ) → said C N d ≡ refused n → (1 ≤ n) × (n ≤ 7)
  unfolding said
  said-number C N n e = go (read_datagram_lem C N d) (read_number C N) e
    where
      no-clash : (h : Header) (b : Bool) → pick b (small h.sequence (part_of d h.name) (part_of d h.payload)) (fragment (fragment_in d h)) ≡ refused n → ForForm n
      no-clash h true q = absurd (let z : ◌≡◌ {A = ℕ} 0 1 = cc in let y : ⊥ = omega arith in y)
      no-clash h false q = absurd (let z : ◌≡◌ {A = ℕ} 0 1 = cc in let y : ⊥ = omega arith in y)

      go : (r : Read) → Numbered r → says d r ≡ refused n → ForForm n
      go (read.Good h) w q = no-clash h h.small q
      go (read.Refused k) w q = let z : k ≡ n = cc in subst ForForm z w

-- ---- what the steps give

abbrev To8 : ℕ → Type 0
To8 n = (1 ≤ n) × (n ≤ 8)

abbrev Mild : Verdict → Type 0
Mild (refuse n) = To8 n
Mild again = Unit {0}
Mild (deliver name n) = Unit {0}
Mild (join s f) = Unit {0}
Mild (begin f) = Unit {0}

eight : To8 8
eight = (lit≤ tt, lit≤ tt)

-- ---- how many keys are remembered

module _ (m : Memory) where
  crowded : memory_ok m ≡ false → Crowded m
  unfolding memory_ok
  crowded e = elim (and_none (leb (length m) senders_most) _ e) [
    | inl q ↦ by-senders (leb-false (length m) senders_most q)
    | inr q ↦ let r = all_none (length m) (λ i. leb (place_at m i).used keys_each) q in by-keys r.0 r.1 (leb-false (place_at m r.0).used keys_each r.2)
  ]

  not-ok : Crowded m → memory_ok m ≡ false
  unfolding memory_ok
  not-ok (by-senders h) = rw (lt-leb (length m) senders_most h)
  not-ok (by-keys i b h) =
      and_no (leb (length m) senders_most) (all-not (length m) (λ j. leb (place_at m j).used keys_each) i b (lt-leb (place_at m i).used keys_each h))

module _ (m : Machine) (store ledger : List ℕ) where
  mild2 : (o : Option ℕ) (name payload : List ℕ) → Mild (step2 o name payload)
  mild2 (some s) name payload = eight
  mild2 none name payload = tt

  mild3 : (f : Fragment) (o : Option ℕ) → Mild (step3or4 m store ledger f o)
  unfolding step3
  mild3 f none = tt
  mild3 f (some s) =
      let slot : Slot = slot_at m.slots s in
      pick_all Mild (same_message slot f)
      (λ e. pick_all Mild (is_held slot.held f.number)
      (λ e. pick_all Mild (same_fragment_lem m.slot_size_lem store ledger s slot f) (λ e. tt) (λ e. eight))
      (λ e. pick_all Mild (agrees_with_all ledger s slot f) (λ e. tt) (λ e. eight)))
      (λ e. eight)

  mild : (sender : ℕ) (r : Said) → ((n : ℕ) → r ≡ refused n → To8 n) → Mild (decide m store ledger sender r)
  unfolding decide
  mild sender (refused n) w = w n refl
  mild sender (small q name payload) w = pick_all Mild (is_remembered_lem m.memory (key_of sender q)) (λ e. tt) (λ e. mild2 (find_open_lem m.slots (key_of sender q)) name payload)
  mild sender (fragment f) w = pick_all Mild (is_remembered_lem m.memory (key_of sender f.sequence)) (λ e. tt) (λ e. mild3 f (find_open_lem m.slots (key_of sender f.sequence)))

  abbrev Below9 : Answer → Type 0
  Below9 (Refused n) = To8 n
  Below9 Kept = Unit {0}
  Below9 Repeat = Unit {0}
  Below9 (Delivered p n) = Unit {0}

  stored-below : (slots : List Slot) (gone : Emptied) (s : ℕ) (f : Fragment) → Below9 (step5 m slots store ledger gone s f).answer
  stored-below slots gone s f = elim (either (all_held_lem (filled (slot_at slots s) f))) [
    | inl e ↦ subst (λ (a : After). Below9 a.answer) (sym (step5-delivered m slots store ledger s f e gone)) tt
    | inr e ↦ subst (λ (a : After). Below9 a.answer) (sym (step5-kept m slots store ledger s f e gone)) tt
  ]

  act-below : (k : Key) (v : Verdict) → Mild v → Below9 (act m store ledger k v).answer
  unfolding act stay
  act-below k (refuse n) w = w
  act-below k again w = tt
  act-below k (deliver name n) w = tt
  act-below k (join s f) w = stored-below m.slots Nobody s f
  act-below k (begin f) w = stored-below _ _ _ f

  sound-below : (sender : ℕ) (d : List ℕ) → sound m (length store) (length ledger) ≡ true → Below9 (step m store ledger sender d).answer
  unfolding receive
  sound-below sender d e =
      let r : Said = said m.slot_size_lem max_fragments d in
      subst (λ (a : After). Below9 a.answer) (sym (step-sound m store ledger sender d e))
      (act-below _ (decide m store ledger sender r) (mild sender r (λ n z. let k : (1 ≤ n) × (n ≤ 7) = said-number d m.slot_size_lem max_fragments n z in (k.0, omega arith))))

  pub never-by-nine : (sender : ℕ) (d : List ℕ) → sound m (length store) (length ledger) ≡ true → (step m store ledger sender d).answer ≢ Refused 9
  never-by-nine sender d e q = let c : Below9 (Refused 9) = subst Below9 q (sound-below sender d e) in omega arith

  unsound-nine : (sender : ℕ) (d : List ℕ) → sound m (length store) (length ledger) ≡ false → (step m store ledger sender d).answer ≡ Refused 9
  unfolding stay
  unsound-nine sender d e = ap (λ (a : After). a.answer) (step-unsound m store ledger sender d e)

  -- NO REFUSAL BUT 1 TO 9
  pub refusal-number : (sender : ℕ) (d : List ℕ) (n : ℕ) → (step m store ledger sender d).answer ≡ Refused n → (1 ≤ n) × (n ≤ 9)
  refusal-number sender d n q = elim (either (sound m (length store) (length ledger))) [
    | inl e ↦ let c : Below9 (Refused n) = subst Below9 q (sound-below sender d e) in (c.0, omega arith)
    | inr e ↦ let z : n ≡ 9 = cc (sym q ∙ unsound-nine sender d e) in (omega arith, omega arith)
  ]

  -- ---- refusal 9, exactly when its list says

  abbrev ok_at : ℕ → Bool
  ok_at s = slot_ok m.slot_size_lem (slot_at m.slots s)

  slot-unfit : (s : ℕ) → s < slot_count → ok_at s ≡ false → Unfit m store ledger
  slot-unfit s b e =
      let slot : Slot = slot_at m.slots s in
      let y : busy slot ≡ true = not-false (busy slot) (or_l (not (busy slot)) (leb slot.size m.slot_size_lem && leb slot.count max_fragments) e) in
      by-slot s b y (elim (and_none (leb slot.size m.slot_size_lem) (leb slot.count max_fragments)
      (or_r (not (busy slot)) (leb slot.size m.slot_size_lem && leb slot.count max_fragments) e)) [
        | inl q ↦ inl (leb-false slot.size m.slot_size_lem q)
        | inr q ↦ inr (leb-false slot.count max_fragments q)
      ])

  unfit : sound m (length store) (length ledger) ≡ false → Unfit m store ledger
  unfolding sound
  unfit e = elim (and_none (eqb (length store) m.store_length) _ e) [
    | inl q ↦ by-store (eqb-false (length store) m.store_length q)
    | inr e₁ ↦ elim (and_none (eqb (length ledger) ledger_length) _ e₁) [
      | inl q ↦ by-ledger (eqb-false (length ledger) ledger_length q)
      | inr e₂ ↦ elim (and_none (eqb m.slot_size_lem (slot_size_of (length store))) _ e₂) [
        | inl q ↦ by-slot-size (eqb-false m.slot_size_lem (slot_size_of (length store)) q)
        | inr e₃ ↦ elim (and_none (all_below slot_count ok_at) (memory_ok m.memory) e₃) [
          | inl q ↦ let r = all_none slot_count ok_at q in slot-unfit r.0 r.1 r.2
          | inr q ↦ by-memory (crowded m.memory q)
        ]
      ]
    ]
  ]

  slot-bad : (s : ℕ) → busy (slot_at m.slots s) ≡ true → ((m.slot_size_lem < (slot_at m.slots s).size) ⊎ (max_fragments < (slot_at m.slots s).count)) → ok_at s ≡ false
  slot-bad s b (inl h) = rw (b, lt-leb (slot_at m.slots s).size m.slot_size_lem h)
  slot-bad s b (inr h) = rw (b, lt-leb (slot_at m.slots s).count max_fragments h) (and-false (leb (slot_at m.slots s).size m.slot_size_lem))

  not_sound : Unfit m store ledger → sound m (length store) (length ledger) ≡ false
  unfolding sound
  not_sound (by-store n) = rw (ne_eqb (length store) m.store_length n)
  not_sound (by-ledger n) = and_no (eqb (length store) m.store_length) (rw (ne_eqb (length ledger) ledger_length n))
  not_sound (by-slot-size n) =
      and_no (eqb (length store) m.store_length) (and_no (eqb (length ledger) ledger_length) (rw (ne_eqb m.slot_size_lem (slot_size_of (length store)) n)))
  not_sound (by-slot s b e h) =
      and_no (eqb (length store) m.store_length) (and_no (eqb (length ledger) ledger_length)
      (and_no (eqb m.slot_size_lem (slot_size_of (length store))) (rw (all-not slot_count ok_at s b (slot-bad s e h)))))
  not_sound (by-memory e) =
      and_no (eqb (length store) m.store_length) (and_no (eqb (length ledger) ledger_length)
      (and_no (eqb m.slot_size_lem (slot_size_of (length store))) (and_no (all_below slot_count ok_at) (not-ok m.memory e))))

  pub nine_exactly : (sender : ℕ) (d : List ℕ) → ((step m store ledger sender d).answer ≡ Refused 9) ↔ Unfit m store ledger
  nine_exactly sender d = (
    λ q. elim (either (sound m (length store) (length ledger))) [
      | inl e ↦ absurd (never-by-nine sender d e q)
      | inr e ↦ unfit e
    ],
    λ u. unsound-nine sender d (not_sound u),
  )

-- forget is refused by 9 alone, and only a state with too many remembered keys
pub forget-nine : (m : Machine) (sender n : ℕ) → ((forget m sender).refusal ≡ some n) ↔ ((n ≡ 9) × Crowded m.memory)
unfolding forget
forget-nine m sender n = (there (memory_ok m.memory) refl, λ p. rw (p.0, not-ok m.memory p.1))
  where
    there : (b : Bool) → memory_ok m.memory ≡ b → (forget m sender).refusal ≡ some n → (n ≡ 9) × Crowded m.memory
    there true e q = clash-none (rw e at q)
    there false e q = let z : some 9 ≡ some n = rw e at q in (let y : 9 ≡ n = cc in sym y, crowded m.memory e)
