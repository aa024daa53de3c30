-- INSIDE: what the receiver's private functions give. Definitions only; no promise of a public function rests on them.
use Rattle.std.specs.Prelude.{◌≡◌, true, List, ℕ, ◌+◌, ◌*◌, ◌≤◌, ◌<◌, length, get_or, set}
use Rattle.wire.specs.Slices.{Buffer}
use Rattle.refusals.specs.Numbers.{number_of}
use Rattle.datagram.specs.Limits.{max_payload}
use Rattle.datagram.specs.Read.{part_of}
use Rattle.datagram.specs.Said.{Fragment, fragment_in}
use Rattle.datagram.specs.declared.Header.{Header}
use Rattle.steps.specs.Limits.{slot_count}
use Rattle.steps.specs.declared.Emptied.{Emptied}
use Rattle.steps.specs.declared.Emptied.TheVariants.{Nobody}
use Rattle.steps.specs.declared.PayloadAt.TheVariants.{InStore, InDatagram}
use Rattle.steps.specs.declared.Answer.{Answer}
use Rattle.steps.specs.declared.Answer.TheVariants.{Delivered}
use Rattle.steps.specs.Memory.{key_of, remember}
use Rattle.steps.specs.Slots.{Slot, slot_at, release, release_one_lem, release_of, seat, opening, filled, no_name_lem, padded}
use Rattle.steps.specs.Receive.{Refused, Repeat, Machine, After, with_slots, stay, store_with, ledger_with, step5, delivered_small, begin_at}
use Rattle.receiver_state.specs.View.{room_word, slots_of, memory_of, view}
use Rattle.receiver_state.specs.Inside.{Ready, Told, Shows, Remembers}
use Rattle.verdict.specs.Inside.{Possible}
use Rattle.verdict.specs.Decided.{Verdict, Refuse, Again, Deliver, Join, Begin, verdict_told}
use Rattle.verdict.specs.declared.Verdict as code
use Rattle.receiver.specs.Lent.{lent}
use Rattle.receiver.specs.Calls.{Leaves}
use Rattle.receiver.specs.declared.Outcome.{Outcome}
use Rattle.receiver.specs.declared.Seat.{Seat}
use Rattle.receiver.specs.declared.Plan.{Plan}
use Rattle.receiver.specs.declared.Plan.TheVariants as plan

-- ---- the slots change

-- they are those, and the rest of the machine stays
abbrev pub Slots : List ℕ → List ℕ → List Slot → List ℕ → List ℕ → Type 0
Slots w n slots w' n' = Shows (with_slots (view w n) slots (memory_of w)) w' n'

abbrev pub Releases : List ℕ → List ℕ → ℕ → List ℕ → List ℕ → Type 0
Releases w n s w' n' = Slots w n (release (slots_of w n) s) w' n'

abbrev pub ReleasesOne : List ℕ → List ℕ → ℕ → ℕ → List ℕ → List ℕ → Type 0
ReleasesOne w n from i w' n' = Slots w n (release_one_lem from i (slots_of w n)) w' n'

abbrev pub ReleasesAll : List ℕ → List ℕ → ℕ → ℕ → List ℕ → List ℕ → Type 0
ReleasesAll w n from i w' n' = Slots w n (release_of from i (slots_of w n)) w' n'

-- slot s is opened for that header's message, whatever the datagram
abbrev pub Occupies : List ℕ → List ℕ → ℕ → ℕ → Header → List ℕ → List ℕ → Type 0
Occupies w n s sender h w' n' = (d : List ℕ) → Slots w n (set (slots_of w n) s (opening (slots_of w n) (key_of sender h.sequence) (fragment_in d h))) w' n'

-- slot s holds the fragment
abbrev pub Keeps : List ℕ → List ℕ → ℕ → Header → List ℕ → List ℕ → List ℕ → Type 0
Keeps w n s h d w' n' = Slots w n (set (slots_of w n) s (filled (slot_at (slots_of w n) s) (fragment_in d h))) w' n'

-- a slot is taken
pub record Seats (w n : List ℕ) (r : Seat) (w' n' : List ℕ) : Type 0 where
  pub place : r.at ≡ (seat (slots_of w n)).at
  pub emptied : r.emptied ≡ (seat (slots_of w n)).emptied
  pub inside : r.at < slot_count
  pub shows : Slots w n (seat (slots_of w n)).slots w' n'

-- ---- what is answered

abbrev pub stayed : Answer → Outcome
stayed a = record { answer = a; emptied = Nobody; name = no_name_lem }

-- the message in slot s is handed over
pub record Delivers (w n : List ℕ) (s : ℕ) (gone : Emptied) (r : Outcome) (w' n' : List ℕ) : Type 0 where
  pub shows : Shows (with_slots (view w n) (release (slots_of w n) s) (remember (memory_of w) (slot_at (slots_of w n) s).key)) w' n'
  pub outcome : r ≡ record { answer = Delivered (InStore (s * get_or w room_word 0)) (slot_at (slots_of w n) s).size; emptied = gone; name = (slot_at (slots_of w n) s).name }

-- a small message is handed over
pub record SmallDone (w : List ℕ) (sender : ℕ) (d : List ℕ) (h : Header) (r : Outcome) (w' : List ℕ) : Type 0 where
  pub remembers : Remembers w (key_of sender h.sequence) w'
  pub outcome : r ≡ record { answer = Delivered (InDatagram (9 + length (part_of d h.name))) (length (part_of d h.payload)); emptied = Nobody; name = padded (part_of d h.name) }

-- ---- the store and the ledger

abbrev pub store_after : ℕ → List ℕ → List ℕ → Plan → List ℕ
store_after C d store (plan.Refuse k) = store
store_after C d store plan.Again = store
store_after C d store (plan.Deliver h) = store
store_after C d store (plan.Hold h t) = store_with C store t.at (fragment_in d h)

abbrev pub ledger_after : List ℕ → List ℕ → Plan → List ℕ
ledger_after d ledger (plan.Refuse k) = ledger
ledger_after d ledger plan.Again = ledger
ledger_after d ledger (plan.Deliver h) = ledger
ledger_after d ledger (plan.Hold h t) = ledger_with ledger t.at (fragment_in d h)

abbrev pub StoredIn : ℕ → List ℕ → List ℕ → ℕ → Fragment → List ℕ → List ℕ → Type 0
StoredIn C store ledger s f store' ledger' = (store' ≡ store_with C store s f) × (ledger' ≡ ledger_with ledger s f)

abbrev pub StoredBy : ℕ → List ℕ → List ℕ → Plan → List ℕ → List ℕ → List ℕ → Type 0
StoredBy C store ledger p d store' ledger' = (store' ≡ store_after C d store p) × (ledger' ≡ ledger_after d ledger p)

-- what is known of a fragment that is to be stored
abbrev pub Storable : ℕ → List ℕ → Plan → Type 0
Storable C d (plan.Refuse k) = Unit {0}
Storable C d plan.Again = Unit {0}
Storable C d (plan.Deliver h) = Unit {0}
Storable C d (plan.Hold h t) = (t.at < slot_count) × (C ≤ max_payload) × Told d h

-- ---- what is to be done

-- what a verdict comes to
abbrev pub enacted : Machine → List ℕ → List ℕ → ℕ → List ℕ → Verdict → After
enacted m store ledger sender d (Refuse k) = stay m store ledger (Refused k)
enacted m store ledger sender d Again = stay m store ledger Repeat
enacted m store ledger sender d (Deliver h) = delivered_small m store ledger (key_of sender h.sequence) (part_of d h.name) (length (part_of d h.payload))
enacted m store ledger sender d (Join s h) = step5 m m.slots store ledger Nobody s (fragment_in d h)
enacted m store ledger sender d (Begin h) = begin_at m store ledger (key_of sender h.sequence) (fragment_in d h) (seat m.slots)

-- and what a plan comes to, where the slot is open
abbrev pub settled : Machine → List ℕ → List ℕ → ℕ → List ℕ → Plan → After
settled m store ledger sender d (plan.Refuse r) = stay m store ledger (Refused (number_of r))
settled m store ledger sender d plan.Again = stay m store ledger Repeat
settled m store ledger sender d (plan.Deliver h) = delivered_small m store ledger (key_of sender h.sequence) (part_of d h.name) (length (part_of d h.payload))
settled m store ledger sender d (plan.Hold h t) = step5 m m.slots store ledger t.emptied t.at (fragment_in d h)

-- what is known of a plan, as of a verdict
abbrev pub Able : List ℕ → List ℕ → List ℕ → Plan → Type 0
Able w n d (plan.Refuse k) = Unit {0}
Able w n d plan.Again = Unit {0}
Able w n d (plan.Deliver h) = Ready w n × Told d h × (h.small ≡ true)
Able w n d (plan.Hold h t) = Ready w n × Told d h × (t.at < slot_count)

-- a plan that does nothing leaves words and names as they are
abbrev pub Still : Plan → List ℕ → List ℕ → List ℕ → List ℕ → Type 0
Still (plan.Refuse k) w n w' n' = (w' ≡ w) × (n' ≡ n)
Still plan.Again w n w' n' = (w' ≡ w) × (n' ≡ n)
Still (plan.Deliver h) w n w' n' = Unit {0}
Still (plan.Hold h t) w n w' n' = Unit {0}

-- step 4: slot r .at is open for that header's message, whatever the datagram
pub record Begins (w n : List ℕ) (sender : ℕ) (h : Header) (r : Seat) (w' n' : List ℕ) : Type 0 where
  pub place : r.at ≡ (seat (slots_of w n)).at
  pub emptied : r.emptied ≡ (seat (slots_of w n)).emptied
  pub inside : r.at < slot_count
  pub shows : (d : List ℕ) → Slots w n (set (seat (slots_of w n)).slots r.at (opening (seat (slots_of w n)).slots (key_of sender h.sequence) (fragment_in d h))) w' n'

-- the plan comes to what the verdict comes to, whatever the store, the ledger and the datagram
pub record Plans (w n : List ℕ) (sender : ℕ) (v : code.Verdict) (p : Plan) (w' n' : List ℕ) : Type 0 where
  pub does : (store ledger d : List ℕ) → settled (view w' n') store ledger sender d p ≡ enacted (view w n) store ledger sender d (verdict_told v)
  pub able : (d : List ℕ) → Possible w n d (verdict_told v) → Able w' n' d p
  pub room : get_or w' room_word 0 ≡ get_or w room_word 0
  pub still : Still p w n w' n'

-- step 5, whatever the store and the ledger
abbrev pub Puts : Buffer → Buffer → ℕ → Emptied → Header → List ℕ → Outcome → Type 0
Puts w n s gone h d r =
    (store ledger : List ℕ) → Leaves (step5 (view w.before n.before) (slots_of w.before n.before) store ledger gone s (fragment_in d h)) r
    (lent w.after n.after (store_with (get_or w.before room_word 0) store s (fragment_in d h)) (ledger_with ledger s (fragment_in d h)))

pub record Settles (w n : List ℕ) (sender : ℕ) (p : Plan) (d : List ℕ) (r : Outcome) (w' n' : List ℕ) : Type 0 where
  pub leaves : (store ledger : List ℕ) → Leaves (settled (view w n) store ledger sender d p) r (lent w' n' (store_after (get_or w room_word 0) d store p) (ledger_after d ledger p))
  pub still : Still p w n w' n'
