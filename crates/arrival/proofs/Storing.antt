-- A fragment is stored in its message's slot: what step 5 answers, and the invariant afterwards.
use Rattle.wire.proofs.Basics.{◌∙◌, sym, ◌≡◌, ap, ℕ, ◌≤◌, ◌+◌, ◌<◌, ◌*◌, List, true, false, Bool, ◌||◌, not, ◌≢◌, length, drop, take, set, eqb, le_trans, arith}
use Rattle.wire.specs.Choice.{pick}
use Rattle.wire.proofs.Choices.{never}
use Rattle.wire.proofs.Overlays.{length-overlay}
use Rattle.datagram.specs.Limits.{max_fragments}
use Rattle.datagram.specs.Said.{Fragment}
use Rattle.steps.specs.declared.Emptied.{Emptied}
use Rattle.steps.specs.Receive.{Delivered}
use Rattle.steps.specs.declared.PayloadAt.TheVariants.{InStore}
use Rattle.steps.specs.Limits.{slot_count, slot_size_of}
use Rattle.steps.specs.Search.{all_below}
use Rattle.steps.specs.Held.{is_held}
use Rattle.steps.specs.Memory.{remember}
use Rattle.steps.specs.Slots.{Slot, busy, slot_at, release, filled, all_held_lem, padded}
use Rattle.steps.specs.Receive.{Machine, After, with_slots, place_of, store_with, ledger_with, kept_in, step5}
use Rattle.steps.proofs.Tables.{all-at, all_cong}
use Rattle.steps.proofs.Seats.{unturned, look, same-busy, Changed, set-changed, set_here, release-changed, release-here}
use Rattle.steps.proofs.Stores.{write-out, part-fits, part_apart, row_apart, length-ledger, offset-other, length-other}
use Rattle.steps.proofs.Branches.{step5-delivered, step5-kept}
use Rattle.arrival.specs.Demand.{Message, Scene, Distinct, key, parts, size, message, slot_bytes}
use Rattle.arrival.proofs.Pieces.{piece, piece-end, payload-fits, few-parts}
use Rattle.arrival.proofs.Joining.{Holds, holds-busy, holds-put, whole-bytes}
use Rattle.arrival.proofs.Sitting.{Slots, reseat}

module _ {σ : Scene} (law : Distinct σ) {live live' : ℕ → Bool} {have have' : ℕ → ℕ → Bool} {slots : List Slot} {store ledger : List ℕ}
    (h : Slots σ live have slots store ledger) (i s k : ℕ) (known : i < size σ) (inside : s < slot_count) (k< : k < parts (message σ i))
    (was : busy (look slots s) ≡ live i) (was-key : busy (look slots s) ≡ true → (look slots s).key ≡ key (message σ i))
    (slots₁ : List Slot) (ch : Changed s slots slots₁)
    (h₁ : Holds (slot_bytes σ) (message σ i) s (have i) (look slots₁ s) store ledger)
    (other_live : (a : ℕ) → a ≢ i → live' a ≡ live a)
    (other_have : (a j : ℕ) → a ≢ i → have' a j ≡ have a j)
    (plus : (j : ℕ) → have' i j ≡ (eqb k j || have i j))
    (Live-now : live' i ≡ not (all_below (parts (message σ i)) (have' i))) where
  abbrev pub C : ℕ
  C = slot_bytes σ

  abbrev pub m : Message
  m = message σ i

  abbrev pub f : Fragment
  f = piece C m k

  abbrev pub slot' : Slot
  slot' = filled (slot_at slots₁ s) f

  abbrev pub new : List Slot
  new = set slots₁ s slot'

  abbrev pub store' : List ℕ
  store' = store_with C store s f

  abbrev pub ledger' : List ℕ
  ledger' = ledger_with ledger s f

  room : s * C + C ≤ length store
  room = part-fits s (length store) C inside (ap slot_size_of (sym h.store_length_lem))

  held : Holds C m s (have' i) (unturned slot') store' ledger'
  held = holds-put (slot_at slots₁ s) h₁ k k< inside room h.ledger-length (have' i) plus

  few : f.number < max_fragments
  few = omega (arith, h₁.cut.its-number k k<, few-parts h₁.cut)

  in-part : f.offset + length f.bytes ≤ C
  in-part = le_trans (piece-end h₁.cut k k<) (payload-fits h₁.cut)

  abbrev pub complete : Bool
  complete = all_below (parts m) (have' i)

  all_held : all_held_lem slot' ≡ complete
  all_held = ap (λ (n : ℕ). all_below n (is_held slot'.held)) held.its-count ∙ all_cong (parts m) (is_held slot'.held) (have' i) held.bits

  reseated : (final : List Slot) → Changed s slots final → busy (look final s) ≡ live' i
      → (live' i ≡ true → Holds C m s (have' i) (look final s) store' ledger') → Slots σ live' have' final store' ledger'
  reseated final c b hl = reseat law h (record {
    known = known;
    inside = inside;
    changed = c;
    was = was;
    was-key = was-key;
    is = b;
    is-held = hl;
    other_live = other_live;
    other_have = other_have;
    store_length_lem = length-overlay store (place_of C s f) f.bytes;
    ledger-length = length-ledger ledger s f;
    other-bytes = λ t y n b. write-out store (place_of C s f) f.bytes (t * C + y) (λ u v.
        part_apart s t C y f.offset (length f.bytes) n b in-part u v);
    other-off = λ t j n b. offset-other ledger s f t j (row_apart s t j f.number b few (λ e z. n e));
    other-len = λ t j n b. length-other ledger s f t j (row_apart s t j f.number b few (λ e z. n e));
  })

  new-changed : Changed s slots new
  new-changed =
      let c : Changed s slots₁ new = set-changed slots₁ s slot' ch.eight in
      record { eight = c.eight; others = λ t n. c.others t n ∙ ch.others t n }

  new-here : look new s ≡ unturned slot'
  new-here = set_here slots₁ s slot' ch.eight inside

  release-all : Changed s slots (release new s)
  release-all =
      let c : Changed s new (release new s) = release-changed new s new-changed.eight in
      record { eight = c.eight; others = λ t n. c.others t n ∙ new-changed.others t n }

  -- the slots afterwards
  pub stored-slots : (b : Bool) → complete ≡ b → Slots σ live' have' (pick b (release new s) new) store' ledger'
  stored-slots true e =
      let l : live' i ≡ false = Live-now ∙ ap not e in
      reseated (release new s) release-all (same-busy (release-here new s new-changed.eight inside) ∙ sym l) (λ q. never q l)
  stored-slots false e =
      let l : live' i ≡ true = Live-now ∙ ap not e in
      reseated new new-changed (same-busy new-here ∙ holds-busy held ∙ sym l) (λ q. rw new-here held)

  its-name : complete ≡ true → slot'.name ≡ padded m.name
  its-name e = held.its-name (all-at (parts m) (have' i) e 0 h₁.cut.some-parts)

  -- what is left and answered
  abbrev pub stored_out : Machine → Emptied → Bool → After
  stored_out mach gone true = record {
    machine = with_slots mach (release new s) (remember mach.memory (key m));
    store = store';
    ledger = ledger';
    answer = Delivered (InStore (s * C)) (length m.payload);
    emptied = gone;
    name = padded m.name;
  }
  stored_out mach gone false = kept_in mach new store' ledger' gone

  pub stored_is : (mach : Machine) → mach.slot_size_lem ≡ C → (gone : Emptied) (b : Bool) → complete ≡ b
      → step5 mach slots₁ store ledger gone s f ≡ stored_out mach gone b
  stored_is mach e gone true q =
      step5-delivered mach slots₁ store ledger s f (all_held ∙ q) gone
      ∙ λ j. record {
        machine = with_slots mach (release new s) (remember mach.memory (held.its-key j));
        store = store_with (e j) store s f;
        ledger = ledger';
        answer = Delivered (InStore (s * e j)) (held.its-size j);
        emptied = gone;
        name = its-name q j;
      }
  stored_is mach e gone false q =
      step5-kept mach slots₁ store ledger s f (all_held ∙ q) gone
      ∙ ap (λ (c : ℕ). kept_in mach new (store_with c store s f) ledger' gone) e

  pub stored_bytes : complete ≡ true → take (length m.payload) (drop (s * C) store') ≡ m.payload
  stored_bytes e = whole-bytes held (omega (arith, room, length-overlay store (place_of C s f) f.bytes)) (all-at (parts m) (have' i) e)
