-- What is known of the outcome of a call of `receive`, whatever was lent: a refusal has a number from 1 on and empties no key, a name has its 63 bytes, and a message that
-- is delivered has the sequence of the datagram's bytes. Assumes nothing.
use Rattle.wire.proofs.Basics.{◌∙◌, sym, ◌≡◌, ap, refl, subst, ℕ, ◌≤◌, ◌+◌, ◌<◌, ◌-◌, ◌*◌, List, true, false, Bool, inl, inr, none, length, length-append, set, replicate, length-replicate, eqb}
use Rattle.wire.proofs.Basics.{eqb-true, arith}
use Rattle.wire.specs.Choice.{pick}
use Rattle.wire.proofs.Choices.{either, pick_all}
use Rattle.names.proofs.Names.{name-short}
use Rattle.names.specs.Name.{good_name_lem}
use Rattle.datagram.specs.Limits.{max_name, max_fragments}
use Rattle.datagram.specs.Read.{sequence_in, read_datagram_lem, part_of}
use Rattle.datagram.specs.Said.{Fragment, small, fragment, fragment_in, says, said}
use Rattle.datagram.specs.declared.Header.{Header}
use Rattle.datagram.specs.Read.{Read}
use Rattle.datagram.specs.Read as read
use Rattle.datagram.proofs.Saids.{fragment-formed, small-read}
use Rattle.steps.specs.declared.PayloadAt.{PayloadAt}
use Rattle.steps.specs.Receive.{Refused, Delivered}
use Rattle.steps.specs.declared.Emptied.{Emptied}
use Rattle.steps.specs.declared.Emptied.TheVariants.{Nobody}
use Rattle.steps.specs.Limits.{slot_count}
use Rattle.steps.specs.declared.Key.{Key}
use Rattle.steps.specs.Memory.{key_of}
use Rattle.steps.specs.Slots.{Slot, slot_at, no_name_lem, padded, filled, all_held_lem, opening, oldest, release, Seat, seat}
use Rattle.steps.specs.Receive.{Machine, After, stay, step, step5, receive, sequence_of, sound}
use Rattle.steps.specs.Answers.{answer_told, emptied_key}
use Rattle.steps.proofs.Branches.{Course, unmoved, given, joined, begun, course, step-sound, step-unsound, receive-refused, step5-delivered, step5-kept, refused-stays}
use Rattle.steps.proofs.Numbers.{refusal-number}
use Rattle.steps.proofs.Ranks.{oldest-inside}
use Rattle.steps.proofs.Seats.{Found, open-found, set_there, release_length, Seated, free, full, seated}
use Rattle.receiver_state.specs.View.{view, shaped}
use Rattle.receiver_state.proofs.Bridge.{slots_length, slot-at}
use Rattle.receiver_state.proofs.Windows.{window-length}
use Rattle.receiver.specs.Lent.{Lent}
use Rattle.receiver.specs.Calls.{received, Receives}
use Rattle.receiver.specs.declared.Outcome.{Outcome}
use Rattle.receiver_laws.proofs.Once.{shape_of}
use Rattle.index_look.proofs.Leads.{Says, says_all}

pub record Speaks (C : ℕ) (d : List ℕ) (o : Outcome) : Type 0 where
  pub numbered : (n : ℕ) → answer_told o.answer ≡ Refused n → 1 ≤ n
  pub empties-none : (n : ℕ) → answer_told o.answer ≡ Refused n → emptied_key o.emptied ≡ none
  pub long : length o.name ≡ max_name
  pub sequence : (p : PayloadAt) (n : ℕ) → answer_told o.answer ≡ Delivered p n → sequence_of (said C max_fragments d) ≡ sequence_in d

-- the same of a step
record Spoken (C : ℕ) (d : List ℕ) (a : After) : Type 0 where
  numbered : (n : ℕ) → a.answer ≡ Refused n → 1 ≤ n
  empties-none : (n : ℕ) → a.answer ≡ Refused n → emptied_key a.emptied ≡ none
  long : length a.name ≡ max_name
  sequence : (p : PayloadAt) (n : ℕ) → a.answer ≡ Delivered p n → sequence_of (said C max_fragments d) ≡ sequence_in d

clash : {X : Type 0} {k n : ℕ} {p : PayloadAt} → Refused k ≡ Delivered p n → X
clash e = absurd (let z : ◌≡◌ {A = ℕ} 0 1 = cc in let y : ⊥ = omega arith in y)

-- ---- names

padded-long : (nm : List ℕ) → length nm ≤ max_name → length (padded nm) ≡ max_name
padded-long nm h = length-append nm (replicate (max_name - length nm) 0) ∙ ap (λ (k : ℕ). length nm + k) (length-replicate (max_name - length nm) 0) ∙ omega arith

none-long : length no_name_lem ≡ max_name
none-long = length-replicate {A = ℕ} max_name 0

module _ (m : Machine) (eight : length m.slots ≡ slot_count) (all : (s : ℕ) → s < slot_count → length (slot_at m.slots s).name ≡ max_name) (store ledger : List ℕ) where
  step5-long : (slots : List Slot) (gone : Emptied) (s : ℕ) (f : Fragment) → length (slot_at slots s).name ≡ max_name → (f.number ≡ 0 → good_name_lem f.name ≡ true)
      → length (step5 m slots store ledger gone s f).name ≡ max_name
  unfolding filled
  step5-long slots gone s f h g = elim (either (all_held_lem (filled (slot_at slots s) f))) [
    | inl e ↦ ap (λ (a : After). length a.name) (step5-delivered m slots store ledger s f e gone)
        ∙ pick_all (λ (x : List ℕ). length x ≡ max_name) (eqb f.number 0) (λ z. padded-long f.name (name-short f.name (g (eqb-true f.number 0 z)))) (λ z. h)
    | inr e ↦ ap (λ (a : After). length a.name) (step5-kept m slots store ledger s f e gone) ∙ none-long
  ]

  opened-long : (slots : List Slot) (s : ℕ) (k : Key) (f : Fragment) → length slots ≡ slot_count → s < slot_count → length (slot_at (set slots s (opening slots k f)) s).name ≡ max_name
  unfolding opening
  opened-long slots s k f e b = ap (λ (x : Slot). length x.name) (set_there slots s (opening slots k f) e b) ∙ none-long

  begun-long : (k : Key) (f : Fragment) → (f.number ≡ 0 → good_name_lem f.name ≡ true) → (t : Seat) → Seated m.slots t
      → length (step5 m (set t.slots t.at (opening t.slots k f)) store ledger t.emptied t.at f).name ≡ max_name
  begun-long k f g t (free s b q) = step5-long _ _ s f (opened-long m.slots s k f eight b) g
  begun-long k f g t (full q) =
      let b : oldest m.slots < slot_count = oldest-inside m.slots eight in
      step5-long _ _ (oldest m.slots) f (opened-long (release m.slots (oldest m.slots)) (oldest m.slots) k f (release_length m.slots (oldest m.slots) ∙ eight) b) g

  abbrev Long : After → Type 0
  Long a = length a.name ≡ max_name

  step-long : (sender : ℕ) (d : List ℕ) → length (step m store ledger sender d).name ≡ max_name
  unfolding stay
  step-long sender d = go (course m store ledger sender d)
    where
      go : Course m store ledger sender (said m.slot_size_lem max_fragments d) (step m store ledger sender d) → Long (step m store ledger sender d)
      go (unmoved x t e) = subst Long (sym e) none-long
      go (given q name payload t p e) = subst Long (sym e) (padded-long name (name-short name (small-read m.slot_size_lem max_fragments d q name payload t).named))
      go (joined f s t p e) =
          let r : Found m.slots (key_of sender f.sequence) s = open-found m.slots eight (key_of sender f.sequence) s p in
          subst Long (sym e) (step5-long m.slots Nobody s f (all s r.inside) (fragment-formed m.slot_size_lem max_fragments d f t).named)
      go (begun f t u p e) =
          subst Long (sym e) (begun-long (key_of sender f.sequence) f (fragment-formed m.slot_size_lem max_fragments d f t).named (seat m.slots) (seated m.slots eight))

-- ---- the sequence

good-sequence : (C : ℕ) (d : List ℕ) (h : Header) → read_datagram_lem C max_fragments d ≡ read.Good h → sequence_of (said C max_fragments d) ≡ sequence_in d
unfolding said
good-sequence C d h e = ap (λ (r : Read). sequence_of (says d r)) e ∙ (go h.small ∙ subst (Says d) e (says_all C max_fragments d))
  where
    go : (b : Bool) → sequence_of (pick b (small h.sequence (part_of d h.name) (part_of d h.payload)) (fragment (fragment_in d h))) ≡ h.sequence
    go true = refl
    go false = refl

module _ (m : Machine) (store ledger : List ℕ) (sender : ℕ) (d : List ℕ) (p : PayloadAt) (n : ℕ) where
  step-sequence : (step m store ledger sender d).answer ≡ Delivered p n → sequence_of (said m.slot_size_lem max_fragments d) ≡ sequence_in d
  unfolding stay said
  step-sequence q = elim (either (sound m (length store) (length ledger))) [
    | inl e ↦ go (read_datagram_lem m.slot_size_lem max_fragments d) refl (sym (ap (λ (a : After). a.answer) (step-sound m store ledger sender d e)) ∙ q)
    | inr e ↦ clash (sym (ap (λ (a : After). a.answer) (step-unsound m store ledger sender d e)) ∙ q)
  ]
    where
      go : (r : Read) → read_datagram_lem m.slot_size_lem max_fragments d ≡ r → (receive m store ledger sender (said m.slot_size_lem max_fragments d)).answer ≡ Delivered p n
          → sequence_of (said m.slot_size_lem max_fragments d) ≡ sequence_in d
      go (read.Good h) e w = good-sequence m.slot_size_lem d h e
      go (read.Refused k) e w =
          clash (sym (ap (λ (a : After). a.answer) (ap (receive m store ledger sender) (ap (says d) e) ∙ receive-refused m store ledger sender k)) ∙ w)

-- ---- a call

module _ (l : Lent) (sender : ℕ) (d : List ℕ) where
  abbrev m : Machine
  m = view l.state l.names

  step-speaks : shaped l.state l.names ≡ true → Spoken m.slot_size_lem d (step m l.store l.ledger sender d)
  unfolding stay
  step-speaks t = record {
    numbered = λ n e. (refusal-number m l.store l.ledger sender d n e).0;
    empties-none = λ n e. ap (λ (a : After). emptied_key a.emptied) (refused-stays m l.store l.ledger sender d n e);
    long = step-long m (slots_length l.state l.names)
        (λ s b. ap (λ (x : Slot). length x.name) (slot-at l.state l.names s b)
        ∙ window-length max_name (max_name * s) l.names (omega (arith, (shape_of l.state l.names l.state l.names t refl refl).bytes)))
        l.store l.ledger sender d;
    sequence = λ p n e. step-sequence m l.store l.ledger sender d p n e;
  }

  nine-speaks : Spoken m.slot_size_lem d (stay m l.store l.ledger (Refused 9))
  unfolding stay
  nine-speaks = record {
    numbered = λ n e. let z : 9 ≡ n = cc in omega arith;
    empties-none = λ n e. refl;
    long = none-long;
    sequence = λ p n e. clash e;
  }

  received-speaks : Spoken m.slot_size_lem d (received l sender d)
  unfolding received
  received-speaks = pick_all (Spoken m.slot_size_lem d) (shaped l.state l.names) step-speaks (λ f. nine-speaks)

  pub speaks : (r : Outcome) (l' : Lent) → Receives l sender d r l' → Speaks m.slot_size_lem d r
  speaks r l' k =
      let s : Spoken m.slot_size_lem d (received l sender d) = received-speaks in
      record {
        numbered = λ n e. s.numbered n (sym k.leaves.answer ∙ e);
        empties-none = λ n e. ap emptied_key k.leaves.emptied ∙ s.empties-none n (sym k.leaves.answer ∙ e);
        long = ap length k.leaves.name ∙ s.long;
        sequence = λ p n e. s.sequence p n (sym k.leaves.answer ∙ e);
      }
