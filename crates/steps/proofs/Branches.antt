-- One law for each branch of the step list: what a call comes to, once its tests are known; and the four courses that a call can take.
use Rattle.wire.proofs.Basics.{◌∙◌, sym, ◌≡◌, ap, refl, subst, ℕ, List, true, false, Bool, inl, inr, some, none, Option, length, set, arith}
use Rattle.wire.proofs.Choices.{either, never}
use Rattle.datagram.specs.Limits.{max_fragments}
use Rattle.datagram.specs.Said.{Said, refused, small, fragment, Fragment, said}
use Rattle.steps.specs.Held.{is_held}
use Rattle.steps.specs.Memory.{key_of, is_remembered_lem}
use Rattle.steps.specs.Slots.{Slot, slot_at, find_open_lem, find_free, oldest, release, seat, opening, filled, all_held_lem, Emptied, Nobody, Was}
use Rattle.steps.specs.Receive.{Machine, After, Answer, Refused, Repeat, stay, Verdict, refuse, again, join, same_message, same_fragment_lem, agrees_with_all, step3, decide, delivered_from, kept_in, step5, store_with, ledger_with, delivered_small, begin_at, act, receive, sound, step}
use Rattle.steps.specs.Reach.{is_accepted, is_stored}
use Rattle.steps.proofs.Seats.{seat-free, seat-full}

module _ (m : Machine) (store ledger : List ℕ) (sender : ℕ) where
  -- ---- refusals

  pub step-unsound : (d : List ℕ) → sound m (length store) (length ledger) ≡ false → step m store ledger sender d ≡ stay m store ledger (Refused 9)
  unfolding step
  step-unsound d e = rw e

  pub step-sound : (d : List ℕ) → sound m (length store) (length ledger) ≡ true
      → step m store ledger sender d ≡ receive m store ledger sender (said m.slot_size_lem max_fragments d)
  unfolding step
  step-sound d e = rw e

  pub receive-refused : (n : ℕ) → receive m store ledger sender (refused n) ≡ stay m store ledger (Refused n)
  unfolding receive decide act
  receive-refused n = refl

  -- ---- a small message

  module _ (q : ℕ) (name payload : List ℕ) where
    pub small-again : is_remembered_lem m.memory (key_of sender q) ≡ true → receive m store ledger sender (small q name payload) ≡ stay m store ledger Repeat
    unfolding receive decide act
    small-again e = rw e

    pub small_open : (s : ℕ) → is_remembered_lem m.memory (key_of sender q) ≡ false → find_open_lem m.slots (key_of sender q) ≡ some s
        → receive m store ledger sender (small q name payload) ≡ stay m store ledger (Refused 8)
    unfolding receive decide act
    small_open s e g = cc

    pub small-whole : is_remembered_lem m.memory (key_of sender q) ≡ false → find_open_lem m.slots (key_of sender q) ≡ none
        → receive m store ledger sender (small q name payload) ≡ delivered_small m store ledger (key_of sender q) name (length payload)
    unfolding receive decide act
    small-whole e g = cc

  -- ---- a fragment

  module _ (f : Fragment) where
    pub fragment-again : is_remembered_lem m.memory (key_of sender f.sequence) ≡ true → receive m store ledger sender (fragment f) ≡ stay m store ledger Repeat
    unfolding receive decide act
    fragment-again e = rw e

    pub fragment-begin : is_remembered_lem m.memory (key_of sender f.sequence) ≡ false → find_open_lem m.slots (key_of sender f.sequence) ≡ none
        → receive m store ledger sender (fragment f) ≡ begin_at m store ledger (key_of sender f.sequence) f (seat m.slots)
    unfolding receive decide act
    fragment-begin e g = cc

    -- into the lowest free slot
    pub fragment-free : (s : ℕ) → is_remembered_lem m.memory (key_of sender f.sequence) ≡ false → find_open_lem m.slots (key_of sender f.sequence) ≡ none
        → find_free m.slots ≡ some s
        → receive m store ledger sender (fragment f)
        ≡ step5 m (set m.slots s (opening m.slots (key_of sender f.sequence) f)) store ledger Nobody s f
    fragment-free s e g h = fragment-begin e g ∙ ap (begin_at m store ledger (key_of sender f.sequence) f) (seat-free m.slots s h)

    -- into the slot that was opened longest ago
    pub fragment-full : is_remembered_lem m.memory (key_of sender f.sequence) ≡ false → find_open_lem m.slots (key_of sender f.sequence) ≡ none
        → find_free m.slots ≡ none
        → receive m store ledger sender (fragment f)
        ≡ step5 m (set (release m.slots (oldest m.slots)) (oldest m.slots) (opening (release m.slots (oldest m.slots)) (key_of sender f.sequence) f))
        store ledger (Was (slot_at m.slots (oldest m.slots)).key) (oldest m.slots) f
    fragment-full e g h = fragment-begin e g ∙ ap (begin_at m store ledger (key_of sender f.sequence) f) (seat-full m.slots h)

    pub fragment-open : (s : ℕ) → is_remembered_lem m.memory (key_of sender f.sequence) ≡ false → find_open_lem m.slots (key_of sender f.sequence) ≡ some s
        → receive m store ledger sender (fragment f)
        ≡ act m store ledger (key_of sender f.sequence) (step3 m.slot_size_lem store ledger s (slot_at m.slots s) f)
    unfolding receive decide
    fragment-open s e g = cc

-- ---- step 3

module _ (C : ℕ) (store ledger : List ℕ) (s : ℕ) (slot : Slot) (f : Fragment) where
  pub step3-other : same_message slot f ≡ false → step3 C store ledger s slot f ≡ refuse 8
  unfolding step3
  step3-other a = rw a

  pub step3-again : same_message slot f ≡ true → is_held slot.held f.number ≡ true → same_fragment_lem C store ledger s slot f ≡ true
      → step3 C store ledger s slot f ≡ again
  unfolding step3
  step3-again a b c = rw (a, b, c)

  pub step3_differs : same_message slot f ≡ true → is_held slot.held f.number ≡ true → same_fragment_lem C store ledger s slot f ≡ false
      → step3 C store ledger s slot f ≡ refuse 8
  unfolding step3
  step3_differs a b c = rw (a, b, c)

  pub step3-join : same_message slot f ≡ true → is_held slot.held f.number ≡ false → agrees_with_all ledger s slot f ≡ true
      → step3 C store ledger s slot f ≡ join s f
  unfolding step3
  step3-join a b c = rw (a, b, c)

  pub step3-clash : same_message slot f ≡ true → is_held slot.held f.number ≡ false → agrees_with_all ledger s slot f ≡ false
      → step3 C store ledger s slot f ≡ refuse 8
  unfolding step3
  step3-clash a b c = rw (a, b, c)

-- ---- what is then done

module _ (m : Machine) (slots : List Slot) (store ledger : List ℕ) (s : ℕ) (f : Fragment) where
  pub step5-delivered : all_held_lem (filled (slot_at slots s) f) ≡ true → (gone : Emptied)
      → step5 m slots store ledger gone s f
      ≡ delivered_from m (set slots s (filled (slot_at slots s) f)) (store_with m.slot_size_lem store s f) (ledger_with ledger s f) gone s (filled (slot_at slots s) f)
  unfolding step5
  step5-delivered e gone = rw e

  pub step5-kept : all_held_lem (filled (slot_at slots s) f) ≡ false → (gone : Emptied)
      → step5 m slots store ledger gone s f
      ≡ kept_in m (set slots s (filled (slot_at slots s) f)) (store_with m.slot_size_lem store s f) (ledger_with ledger s f) gone
  unfolding step5
  step5-kept e gone = rw e

-- ---- the four courses of a call

pub data Course (m : Machine) (store ledger : List ℕ) (sender : ℕ) (r : Said) (a : After) : Type 0 where
  -- nothing is accepted, and nothing altered
  unmoved : (x : Answer) → is_accepted x ≡ false → a ≡ stay m store ledger x → Course m store ledger sender r a
  -- a small message is delivered
  given : (q : ℕ) (name payload : List ℕ) → r ≡ small q name payload → find_open_lem m.slots (key_of sender q) ≡ none
      → a ≡ delivered_small m store ledger (key_of sender q) name (length payload) → Course m store ledger sender r a
  -- a fragment goes into its message's slot
  joined : (f : Fragment) (s : ℕ) → r ≡ fragment f → find_open_lem m.slots (key_of sender f.sequence) ≡ some s
      → a ≡ step5 m m.slots store ledger Nobody s f → Course m store ledger sender r a
  -- a fragment opens a slot
  begun : (f : Fragment) → r ≡ fragment f → is_remembered_lem m.memory (key_of sender f.sequence) ≡ false → find_open_lem m.slots (key_of sender f.sequence) ≡ none
      → a ≡ begin_at m store ledger (key_of sender f.sequence) f (seat m.slots) → Course m store ledger sender r a

module _ (m : Machine) (store ledger : List ℕ) (sender : ℕ) where
  course-open : (f : Fragment) (s : ℕ) → is_remembered_lem m.memory (key_of sender f.sequence) ≡ false → find_open_lem m.slots (key_of sender f.sequence) ≡ some s
      → Course m store ledger sender (fragment f) (receive m store ledger sender (fragment f))
  unfolding act
  course-open f s e g = by (same_message (slot_at m.slots s) f) refl (is_held (slot_at m.slots s).held f.number) refl (same_fragment_lem m.slot_size_lem store ledger s (slot_at m.slots s) f) refl (agrees_with_all ledger s (slot_at m.slots s) f) refl
    where
      to : (v : Verdict) → step3 m.slot_size_lem store ledger s (slot_at m.slots s) f ≡ v → receive m store ledger sender (fragment f) ≡ act m store ledger (key_of sender f.sequence) v
      to v q = fragment-open m store ledger sender f s e g ∙ ap (act m store ledger (key_of sender f.sequence)) q

      by : (a : Bool) → same_message (slot_at m.slots s) f ≡ a → (b : Bool) → is_held (slot_at m.slots s).held f.number ≡ b → (c : Bool) → same_fragment_lem m.slot_size_lem store ledger s (slot_at m.slots s) f ≡ c
          → (d : Bool) → agrees_with_all ledger s (slot_at m.slots s) f ≡ d → Course m store ledger sender (fragment f) (receive m store ledger sender (fragment f))
      by false x b y c z d w = unmoved (Refused 8) refl (to (refuse 8) (step3-other m.slot_size_lem store ledger s (slot_at m.slots s) f x))
      by true x true y true z d w = unmoved Repeat refl (to again (step3-again m.slot_size_lem store ledger s (slot_at m.slots s) f x y z))
      by true x true y false z d w = unmoved (Refused 8) refl (to (refuse 8) (step3_differs m.slot_size_lem store ledger s (slot_at m.slots s) f x y z))
      by true x false y c z false w = unmoved (Refused 8) refl (to (refuse 8) (step3-clash m.slot_size_lem store ledger s (slot_at m.slots s) f x y w))
      by true x false y c z true w = joined f s refl g (to (join s f) (step3-join m.slot_size_lem store ledger s (slot_at m.slots s) f x y w))

  course-of : (r : Said) → Course m store ledger sender r (receive m store ledger sender r)
  course-of (refused n) = unmoved (Refused n) refl (receive-refused m store ledger sender n)
  course-of (small q name payload) = elim (either (is_remembered_lem m.memory (key_of sender q))) [
    | inl e ↦ unmoved Repeat refl (small-again m store ledger sender q name payload e)
    | inr e ↦ go e (find_open_lem m.slots (key_of sender q)) refl
  ]
    where
      go : is_remembered_lem m.memory (key_of sender q) ≡ false → (o : Option ℕ) → find_open_lem m.slots (key_of sender q) ≡ o
          → Course m store ledger sender (small q name payload) (receive m store ledger sender (small q name payload))
      go e none p = given q name payload refl p (small-whole m store ledger sender q name payload e p)
      go e (some s) p = unmoved (Refused 8) refl (small_open m store ledger sender q name payload s e p)
  course-of (fragment f) = elim (either (is_remembered_lem m.memory (key_of sender f.sequence))) [
    | inl e ↦ unmoved Repeat refl (fragment-again m store ledger sender f e)
    | inr e ↦ go e (find_open_lem m.slots (key_of sender f.sequence)) refl
  ]
    where
      go : is_remembered_lem m.memory (key_of sender f.sequence) ≡ false → (o : Option ℕ) → find_open_lem m.slots (key_of sender f.sequence) ≡ o
          → Course m store ledger sender (fragment f) (receive m store ledger sender (fragment f))
      go e none p = begun f refl e p (fragment-begin m store ledger sender f e p)
      go e (some s) p = course-open f s e p

  pub course : (d : List ℕ) → Course m store ledger sender (said m.slot_size_lem max_fragments d) (step m store ledger sender d)
  course d = elim (either (sound m (length store) (length ledger))) [
    | inl e ↦ subst (Course m store ledger sender (said m.slot_size_lem max_fragments d)) (sym (step-sound m store ledger sender d e)) (course-of (said m.slot_size_lem max_fragments d))
    | inr e ↦ unmoved (Refused 9) refl (step-unsound m store ledger sender d e)
  ]

-- what is stored is accepted
pub step5-stores : (m : Machine) (slots : List Slot) (store ledger : List ℕ) (s : ℕ) (f : Fragment) (gone : Emptied)
    → is_stored (step5 m slots store ledger gone s f).answer ≡ true
step5-stores m slots store ledger s f gone = elim (either (all_held_lem (filled (slot_at slots s) f))) [
  | inl e ↦ ap (λ (a : After). is_stored a.answer) (step5-delivered m slots store ledger s f e gone)
  | inr e ↦ ap (λ (a : After). is_stored a.answer) (step5-kept m slots store ledger s f e gone)
]

-- a refused datagram alters nothing, and empties nothing
pub refused-stays : (m : Machine) (store ledger : List ℕ) (sender : ℕ) (d : List ℕ) (n : ℕ) → (step m store ledger sender d).answer ≡ Refused n
    → step m store ledger sender d ≡ stay m store ledger (Refused n)
unfolding stay
refused-stays m store ledger sender d n e = go (course m store ledger sender d)
  where
    no : (a : After) → step m store ledger sender d ≡ a → is_stored a.answer ≡ true → step m store ledger sender d ≡ stay m store ledger (Refused n)
    no a q t = never (ap is_stored (sym e ∙ ap (λ (x : After). x.answer) q) ∙ t) refl

    go : Course m store ledger sender (said m.slot_size_lem max_fragments d) (step m store ledger sender d) → step m store ledger sender d ≡ stay m store ledger (Refused n)
    go (unmoved x t q) = q ∙ ap (stay m store ledger) (sym (ap (λ (a : After). a.answer) q) ∙ e)
    go (given k name payload t p q) = let z : ◌≡◌ {A = ℕ} 0 1 = cc (sym e ∙ ap (λ (a : After). a.answer) q) in absurd (let y : ⊥ = omega arith in y)
    go (joined f s t p q) = no _ q (step5-stores m m.slots store ledger s f Nobody)
    go (begun f t u p q) = no _ q (step5-stores m _ store ledger _ f _)
