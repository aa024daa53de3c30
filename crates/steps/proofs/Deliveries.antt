-- WHERE A DELIVERED PAYLOAD LIES, for any state of eight slots and all input: inside the datagram, or inside the store as the call left it.
use Rattle.wire.proofs.Basics.{◌∙◌, sym, ◌≡◌, ap, refl, subst, subst₂, ℕ, ◌≤◌, ◌+◌, ◌<◌, ◌*◌, List, true, false, Bool, ◌&&◌, not, inl, inr, length, drop, length-drop, set, length-take, eqb, leb}
use Rattle.wire.proofs.Basics.{eqb-true, leb-true, arith}
use Rattle.wire.proofs.Choices.{either, and_l, and_r}
use Rattle.wire.proofs.Overlays.{length-overlay}
use Rattle.datagram.specs.Limits.{max_fragments}
use Rattle.datagram.specs.Said.{Fragment, said}
use Rattle.datagram.proofs.Saids.{fragment-formed, small-read}
use Rattle.steps.specs.Limits.{slot_count, ledger_length, slot_size_of}
use Rattle.steps.specs.Search.{all_below}
use Rattle.steps.specs.Memory.{Key, key_of, memory_ok}
use Rattle.steps.specs.Slots.{Slot, slot_at, oldest, release, opening, filled, all_held_lem, Seat, seat, Emptied, Nobody}
use Rattle.steps.specs.Receive.{Machine, After, Answer, PayloadAt, InDatagram, InStore, Refused, Kept, Delivered, stay, place_of, store_with, step5, slot_ok, sound, step}
use Rattle.steps.specs.Reach.{is_accepted}
use Rattle.steps.specs.Answers.{holder, begins_at_lem}
use Rattle.steps.specs.Promises.{Lies}
use Rattle.steps.proofs.Tables.{all-at, or-not}
use Rattle.steps.proofs.Seats.{busy_at, Found, open-found, set_there, release_length, Seated, free, full, seated}
use Rattle.steps.proofs.Stores.{part-fits}
use Rattle.steps.proofs.Branches.{Course, unmoved, given, joined, begun, course, step-unsound, step5-delivered, step5-kept}
use Rattle.steps.proofs.Ranks.{oldest-inside}

lies : (d store : List ℕ) (p : PayloadAt) (n : ℕ) → begins_at_lem p + n ≤ length (holder d store p) → Lies d store p n
lies d store (InDatagram at) n h = record { inside = h; long = omega (arith, length-take n (drop at d), length-drop at d) }
lies d store (InStore at) n h = record { inside = h; long = omega (arith, length-take n (drop at store), length-drop at store) }

-- what is delivered by a lies in the datagram d, or in the store that a leaves
abbrev Lying : List ℕ → After → Type 0
Lying d a = (p : PayloadAt) (n : ℕ) → a.answer ≡ Delivered p n → Lies d a.store p n

-- an answer that hands nothing over
not-given : (a : Answer) (p : PayloadAt) (n : ℕ) → is_accepted a ≡ false → a ≡ Delivered p n → ⊥
not-given a p n e q = let z : ◌≡◌ {A = Bool} true false = sym (ap is_accepted q) ∙ e in let w : ◌≡◌ {A = ℕ} 0 1 = cc in omega arith

kept-not : (p : PayloadAt) (n : ℕ) → Kept ≡ Delivered p n → ⊥
kept-not p n q = let z : ◌≡◌ {A = ℕ} 0 1 = cc in omega arith

-- a place and a length that are known
lying-at : (d store : List ℕ) (p : PayloadAt) (n : ℕ) → begins_at_lem p + n ≤ length (holder d store p) → (q : PayloadAt) (k : ℕ) → Delivered p n ≡ Delivered q k → Lies d store q k
lying-at d store p n h q k e =
    let x : p ≡ q = cc in
    let y : n ≡ k = cc in
    subst₂ (Lies d store) x y (lies d store p n h)

module _ (m : Machine) (eight : length m.slots ≡ slot_count) (store ledger : List ℕ) (is-sound : sound m (length store) (length ledger) ≡ true) where
  abbrev C : ℕ
  C = m.slot_size_lem

  abbrev all-ok : Bool
  all-ok = all_below slot_count (λ s. slot_ok C (slot_at m.slots s))

  rest-sound : (eqb C (slot_size_of (length store)) && (all-ok && memory_ok m.memory)) ≡ true
  unfolding sound
  rest-sound = and_r (eqb (length ledger) ledger_length) _ (and_r (eqb (length store) m.store_length) _ is-sound)

  sized : C ≡ slot_size_of (length store)
  sized = eqb-true C (slot_size_of (length store)) (and_l (eqb C (slot_size_of (length store))) (all-ok && memory_ok m.memory) rest-sound)

  -- an open slot's P is not over C
  not-over : (s : ℕ) → s < slot_count → busy_at m.slots s ≡ true → (slot_at m.slots s).size ≤ C
  not-over s b y =
      let x : Slot = slot_at m.slots s in
      let ok : slot_ok C (slot_at m.slots s) ≡ true =
      all-at slot_count (λ s. slot_ok C (slot_at m.slots s)) (and_l all-ok (memory_ok m.memory) (and_r (eqb C (slot_size_of (length store))) _ rest-sound)) s b in
      leb-true (slot_at m.slots s).size C (and_l (leb (slot_at m.slots s).size C) (leb (slot_at m.slots s).count max_fragments)
      (sym (or-not (not (busy_at m.slots s)) _ (ap not y)) ∙ ok))

  -- a message that is whole stands in its slot's part
  step5-lies : (d : List ℕ) (slots : List Slot) (gone : Emptied) (s : ℕ) (f : Fragment) → s < slot_count → (slot_at slots s).size ≤ C → Lying d (step5 m slots store ledger gone s f)
  unfolding filled
  step5-lies d slots gone s f b h = elim (either (all_held_lem (filled (slot_at slots s) f))) [
    | inl e ↦ subst (Lying d) (sym (step5-delivered m slots store ledger s f e gone))
        (lying-at d (store_with C store s f) (InStore (s * C)) (slot_at slots s).size (omega (arith, part-fits s (length store) C b sized, length-overlay store (place_of C s f) f.bytes)))
    | inr e ↦ subst (Lying d) (sym (step5-kept m slots store ledger s f e gone)) (λ p n q. absurd (kept-not p n q))
  ]

  -- a slot just opened has the fragment's P, whichever is taken
  opened-size : (k : Key) (f : Fragment) → f.size ≤ C → (slots : List Slot) (s : ℕ) → length slots ≡ slot_count → s < slot_count → (slot_at (set slots s (opening slots k f)) s).size ≤ C
  unfolding opening
  opened-size k f h slots s e b = subst (λ (x : Slot). x.size ≤ C) (sym (set_there slots s (opening slots k f) e b)) h

  begun-lies : (d : List ℕ) (k : Key) (f : Fragment) → f.size ≤ C → (t : Seat) → Seated m.slots t
      → Lying d (step5 m (set t.slots t.at (opening t.slots k f)) store ledger t.emptied t.at f)
  begun-lies d k f h t (free s b q) = step5-lies d _ _ s f b (opened-size k f h m.slots s eight b)
  begun-lies d k f h t (full all) =
      let b : oldest m.slots < slot_count = oldest-inside m.slots eight in
      step5-lies d _ _ (oldest m.slots) f b (opened-size k f h (release m.slots (oldest m.slots)) (oldest m.slots) (release_length m.slots (oldest m.slots) ∙ eight) b)

  sound-lies : (sender : ℕ) (d : List ℕ) → Lying d (step m store ledger sender d)
  unfolding stay
  sound-lies sender d = go (course m store ledger sender d)
    where
      go : Course m store ledger sender (said C max_fragments d) (step m store ledger sender d) → Lying d (step m store ledger sender d)
      go (unmoved x t e) = subst (Lying d) (sym e) (λ p n q. absurd (not-given x p n t q))
      go (given q name payload t p e) = subst (Lying d) (sym e)
          (lying-at d store (InDatagram (9 + length name)) (length payload) (omega (arith, (small-read C max_fragments d q name payload t).ends)))
      go (joined f s t p e) =
          let r : Found m.slots (key_of sender f.sequence) s = open-found m.slots eight (key_of sender f.sequence) s p in
          subst (Lying d) (sym e) (step5-lies d m.slots Nobody s f r.inside (not-over s r.inside r.is-busy))
      go (begun f t u p e) =
          subst (Lying d) (sym e) (begun-lies d (key_of sender f.sequence) f (fragment-formed C max_fragments d f t).fits (seat m.slots) (seated m.slots eight))

-- THE THEOREM: place and length lie in what holds the payload
pub delivery-lies : (m : Machine) → length m.slots ≡ slot_count → (store ledger : List ℕ) (sender : ℕ) (d : List ℕ) (p : PayloadAt) (n : ℕ)
    → (step m store ledger sender d).answer ≡ Delivered p n → Lies d (step m store ledger sender d).store p n
unfolding stay
delivery-lies m eight store ledger sender d = elim (either (sound m (length store) (length ledger))) [
  | inl e ↦ sound-lies m eight store ledger e sender d
  | inr e ↦ subst (Lying d) (sym (step-unsound m store ledger sender d e)) (λ p n q. absurd (not-given (Refused 9) p n refl q))
]
