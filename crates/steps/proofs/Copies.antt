-- A fragment of an open key that is not refused has the slot's P and n; one that is answered Repeat is a copy of what is held.
use Rattle.wire.proofs.Basics.{◌∙◌, sym, ◌≡◌, ap, refl, ℕ, List, true, false, Bool, ◌&&◌, inl, inr, ◌≢◌, some, length, drop, take, eqb, eq-eqb, eqb-true, arith}
use Rattle.wire.specs.Choice.{pick}
use Rattle.wire.specs.Same.{same}
use Rattle.wire.proofs.Choices.{either, never, and_l, and_r}
use Rattle.wire.proofs.Parts.{same_true}
use Rattle.datagram.specs.Limits.{max_fragments}
use Rattle.datagram.specs.Said.{fragment, Fragment, said}
use Rattle.steps.specs.Held.{is_held}
use Rattle.steps.specs.Memory.{key_of, is_remembered_lem}
use Rattle.steps.specs.Slots.{Slot, slot_at, find_open_lem, padded, Nobody}
use Rattle.steps.specs.Receive.{Machine, After, Answer, Refused, Repeat, stay, Verdict, refuse, join, offset_of, length_of, place_of, same_message, same_fragment_lem, agrees_with_all, step3, act, receive, sound, step}
use Rattle.steps.specs.Reach.{is_stored}
use Rattle.steps.specs.Promises.{OfMessage, Copy}
use Rattle.steps.proofs.Branches.{step-unsound, step-sound, fragment-open, step3-other, step3_differs, step3-join, step3-clash, step5-stores}

-- step 3's test of P and n
pub message-of : (slot : Slot) (f : Fragment) → same_message slot f ≡ true → OfMessage slot f
message-of slot f e = record {
  same_size = eqb-true f.size slot.size (and_l (eqb f.size slot.size) (eqb f.count slot.count) e);
  same_count = eqb-true f.count slot.count (and_r (eqb f.size slot.size) (eqb f.count slot.count) e);
}

-- what step 3 has found when it answers so
data Found3 (m : Machine) (store ledger : List ℕ) (s : ℕ) (f : Fragment) (a : Answer) : Type 0 where
  other : a ≡ Refused 8 → Found3 m store ledger s f a
  copy : same_message (slot_at m.slots s) f ≡ true → is_held (slot_at m.slots s).held f.number ≡ true
      → same_fragment_lem m.slot_size_lem store ledger s (slot_at m.slots s) f ≡ true → Found3 m store ledger s f a
  new : same_message (slot_at m.slots s) f ≡ true → is_stored a ≡ true → Found3 m store ledger s f a

module _ (m : Machine) (store ledger : List ℕ) (sender : ℕ) (d : List ℕ) (f : Fragment) (s : ℕ) (says : said m.slot_size_lem max_fragments d ≡ fragment f)
    (new-key : is_remembered_lem m.memory (key_of sender f.sequence) ≡ false) (is_open_lem : find_open_lem m.slots (key_of sender f.sequence) ≡ some s) where
  abbrev slot : Slot
  slot = slot_at m.slots s

  abbrev answer : Answer
  answer = (step m store ledger sender d).answer

  to : sound m (length store) (length ledger) ≡ true → (v : Verdict) → step3 m.slot_size_lem store ledger s slot f ≡ v
      → answer ≡ (act m store ledger (key_of sender f.sequence) v).answer
  to e v q = ap (λ (a : After). a.answer)
      (step-sound m store ledger sender d e ∙ ap (receive m store ledger sender) says
      ∙ fragment-open m store ledger sender f s new-key is_open_lem ∙ ap (act m store ledger (key_of sender f.sequence)) q)

  found3 : sound m (length store) (length ledger) ≡ true → Found3 m store ledger s f answer
  unfolding act stay
  found3 e = by (same_message slot f) refl (is_held slot.held f.number) refl (same_fragment_lem m.slot_size_lem store ledger s slot f) refl (agrees_with_all ledger s slot f) refl
    where
      by : (a : Bool) → same_message slot f ≡ a → (b : Bool) → is_held slot.held f.number ≡ b → (c : Bool) → same_fragment_lem m.slot_size_lem store ledger s slot f ≡ c
          → (g : Bool) → agrees_with_all ledger s slot f ≡ g → Found3 m store ledger s f answer
      by false x b y c z g w = other (to e (refuse 8) (step3-other m.slot_size_lem store ledger s slot f x))
      by true x true y true z g w = copy x y z
      by true x true y false z g w = other (to e (refuse 8) (step3_differs m.slot_size_lem store ledger s slot f x y z))
      by true x false y c z false w = other (to e (refuse 8) (step3-clash m.slot_size_lem store ledger s slot f x y w))
      by true x false y c z true w = new x (ap is_stored (to e (join s f) (step3-join m.slot_size_lem store ledger s slot f x y w)) ∙ step5-stores m m.slots store ledger s f Nobody)

  nine : sound m (length store) (length ledger) ≡ false → answer ≡ Refused 9
  unfolding stay
  nine e = ap (λ (a : After). a.answer) (step-unsound m store ledger sender d e)

  -- not refused: it has the slot's P and n
  pub of-its-message : ((n : ℕ) → (step m store ledger sender d).answer ≢ Refused n) → OfMessage (slot_at m.slots s) f
  of-its-message h = elim (either (sound m (length store) (length ledger))) [
    | inl e ↦ go (found3 e)
    | inr e ↦ absurd (h 9 (nine e))
  ]
    where
      go : Found3 m store ledger s f answer → OfMessage slot f
      go (other q) = absurd (h 8 q)
      go (copy x y z) = message-of slot f x
      go (new x y) = message-of slot f x

  copy_of : is_held slot.held f.number ≡ true → same_fragment_lem m.slot_size_lem store ledger s slot f ≡ true → Copy m.slot_size_lem store ledger s slot f
  unfolding same_fragment_lem
  copy_of y z =
      let o : Bool = eqb (offset_of ledger s f.number) f.offset in
      let l : Bool = eqb (length_of ledger s f.number) (length f.bytes) in
      let b : Bool = same (take (length f.bytes) (drop (place_of m.slot_size_lem s f) store)) f.bytes in
      let n : Bool = pick (eqb f.number 0) (same slot.name (padded f.name)) true in
      let z₁ : (l && (b && n)) ≡ true = and_r o (l && (b && n)) z in
      let z₂ : (b && n) ≡ true = and_r l (b && n) z₁ in
      record {
        is-held = y;
        same-offset = eqb-true (offset_of ledger s f.number) f.offset (and_l o (l && (b && n)) z);
        same_length = eqb-true (length_of ledger s f.number) (length f.bytes) (and_l l (b && n) z₁);
        same_data = same_true (take (length f.bytes) (drop (place_of m.slot_size_lem s f) store)) f.bytes (and_l b n z₂);
        same_name = λ e. same_true slot.name (padded f.name)
            (sym (ap (λ (t : Bool). pick t (same slot.name (padded f.name)) true) (eq-eqb f.number 0 e)) ∙ and_r b n z₂);
      }

  -- Repeat: it is held, with the same offset, length, data and, for k = 0, name
  pub repeat-is-copy : (step m store ledger sender d).answer ≡ Repeat → Copy m.slot_size_lem store ledger s (slot_at m.slots s) f
  repeat-is-copy h = elim (either (sound m (length store) (length ledger))) [
    | inl e ↦ go (found3 e)
    | inr e ↦ absurd (refuses 9 (nine e))
  ]
    where
      refuses : (n : ℕ) → answer ≡ Refused n → ⊥
      refuses n q = let z : ◌≡◌ {A = ℕ} 0 1 = cc (sym h ∙ q) in omega arith

      go : Found3 m store ledger s f answer → Copy m.slot_size_lem store ledger s slot f
      go (other q) = absurd (refuses 8 q)
      go (copy x y z) = copy_of y z
      go (new x y) = never (sym (ap is_stored h) ∙ y) refl
