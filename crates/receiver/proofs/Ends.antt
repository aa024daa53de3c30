-- What was called on the way, put together: a message handed over, a fragment put, a slot taken.
use Rattle.wire.proofs.Basics.{◌∙◌, sym, ◌≡◌, ap, refl, subst, ℕ, ◌+◌, ◌<◌, ◌-◌, ◌*◌, List, true, false, length, drop, get_or, take, set, replicate, arith}
use Rattle.wire.specs.Overlay.{overlay}
use Rattle.wire.proofs.Overlays.{overlay-whole}
use Rattle.datagram.specs.Limits.{max_name, max_fragments}
use Rattle.datagram.specs.Said.{Fragment, fragment_in}
use Rattle.datagram.specs.declared.Header.{Header}
use Rattle.steps.specs.Limits.{slot_count}
use Rattle.steps.specs.declared.Key.{Key}
use Rattle.steps.specs.declared.Emptied.{Emptied}
use Rattle.steps.specs.declared.Emptied.TheVariants.{Nobody, Was}
use Rattle.steps.specs.declared.PayloadAt.TheVariants.{InStore}
use Rattle.steps.specs.declared.Answer.TheVariants.{Kept, Delivered}
use Rattle.steps.specs.Receive as lists
use Rattle.steps.specs.Answers.{answer_told}
use Rattle.steps.specs.Memory.{key_of, remember}
use Rattle.steps.specs.Slots.{Slot, slot_at, oldest, no_name_lem, filled, all_held_lem, opening, release}
use Rattle.steps.specs.Slots as step
use Rattle.steps.specs.Receive.{Machine, After, with_slots, row, store_with, ledger_with, step5}
use Rattle.steps.proofs.Branches.{step5-delivered, step5-kept}
use Rattle.steps.proofs.Seats.{set_there, seat-free, seat-full}
use Rattle.ranks.specs.Ranks.{lowest_ranked_lem}
use Rattle.ranks.proofs.Ranks.{lowest-is}
use Rattle.std.proofs.Common.{Some, None}
use Rattle.slots.specs.Words.{turns, at, sender_word, sequence_word, size_word, free_in, first_below}
use Rattle.receiver_state.specs.View.{room_word, name_in, slots_of, memory_of, view}
use Rattle.receiver_state.specs.Inside.{Shaped, Remembers}
use Rattle.receiver_state.proofs.Windows.{window-length}
use Rattle.receiver_state.proofs.Firsts.{first-within}
use Rattle.steps.specs.InsideSearch.{option_of}
use Rattle.receiver_state.proofs.Bridge.{slots_length, free-slot, oldest-slot}
use Rattle.receiver_state.proofs.StepListCases.{row_is, key-is, size_is, name-is}
use Rattle.receiver.specs.Lent.{lent}
use Rattle.receiver.specs.Calls.{Leaves}
use Rattle.receiver.specs.Inside.{Slots, Releases, Occupies, Delivers, Seats, Begins}
use Rattle.receiver.specs.declared.Outcome.{Outcome}
use Rattle.receiver.specs.declared.Seat.{Seat}

-- ---- a whole message is handed over

pub delivered : (w n : List ℕ) (sh : Shaped w n) (s : ℕ) (h : s < slot_count) (a q z room p : ℕ) (nm w1 w2 n2 : List ℕ) (gone : Emptied)
    → a ≡ at w s sender_word → q ≡ at w s sequence_word → z ≡ at w s size_word → room ≡ get_or w room_word 0 → p ≡ s * room
    → nm ≡ overlay (replicate max_name 0) 0 (take max_name (drop (max_name * s) n)) → Remembers w (key_of a q) w1 → Releases w1 n s w2 n2
    → Delivers w n s gone (record { answer = Delivered (InStore p) z; emptied = gone; name = nm }) w2 n2
delivered w n sh s h a q z room p nm w1 w2 n2 gone ea eq ez er ep en R L =
    let k : key_of a q ≡ (slot_at (slots_of w n) s).key = (λ i. key_of (ea i) (eq i)) ∙ key-is w n s h in
    let place : p ≡ s * get_or w room_word 0 = ep ∙ ap (λ (x : ℕ). s * x) er in
    let long : length (name_in n s) ≡ max_name = window-length max_name (max_name * s) n (omega (arith, sh.bytes)) in
    let name : nm ≡ (slot_at (slots_of w n) s).name = en ∙ overlay-whole (replicate max_name 0) (name_in n s) long ∙ name-is w n s h in
    record {
      shows = record {
        machine = L.machine ∙ ap (λ (m : Machine). with_slots m (release m.slots s) m.memory) (R.machine n)
            ∙ ap (λ (x : Key). with_slots (view w n) (release (slots_of w n) s) (remember (memory_of w) x)) k;
        shape = L.shape;
      };
      outcome = λ i. record { answer = Delivered (InStore (place i)) ((ez ∙ size_is w n s h) i); emptied = gone; name = name i };
    }

-- ---- step 5

module _ (w n : List ℕ) (s : ℕ) (h : s < slot_count) (gone : Emptied) (f : Fragment) (w1 n1 : List ℕ)
    (K : Slots w n (set (slots_of w n) s (filled (slot_at (slots_of w n) s) f)) w1 n1) (store ledger : List ℕ) where
  abbrev x : Slot
  x = filled (slot_at (slots_of w n) s) f

  abbrev store1 : List ℕ
  store1 = store_with (get_or w room_word 0) store s f

  its : slot_at (slots_of w1 n1) s ≡ x
  its = ap (λ (m : Machine). slot_at m.slots s) K.machine ∙ set_there (slots_of w n) s x (slots_length w n) h

  pub put-kept : (nm : List ℕ) → all_held_lem x ≡ false → nm ≡ no_name_lem
      → Leaves (step5 (view w n) (slots_of w n) store ledger gone s f) (record { answer = Kept; emptied = gone; name = nm }) (lent w1 n1 store1 (ledger_with ledger s f))
  put-kept nm e en = subst (λ (a : After). Leaves a (record { answer = Kept; emptied = gone; name = nm }) (lent w1 n1 store1 (ledger_with ledger s f)))
      (sym (step5-kept (view w n) (slots_of w n) store ledger s f e gone))
      (record { answer = refl; emptied = refl; name = en; machine = K.machine; store = refl; ledger = refl })

  pub put-delivered : (r : Outcome) (w2 n2 : List ℕ) → all_held_lem x ≡ true → Delivers w1 n1 s gone r w2 n2
      → Leaves (step5 (view w n) (slots_of w n) store ledger gone s f) r (lent w2 n2 store1 (ledger_with ledger s f))
  put-delivered r w2 n2 e D = subst (λ (a : After). Leaves a r (lent w2 n2 store1 (ledger_with ledger s f)))
      (sym (step5-delivered (view w n) (slots_of w n) store ledger s f e gone))
      (record {
        answer = ap (λ (o : Outcome). answer_told o.answer) D.outcome ∙ (λ i. lists.Delivered (InStore (s * (K.machine i).slot_size_lem)) (its i).size);
        emptied = ap (λ (o : Outcome). o.emptied) D.outcome;
        name = ap (λ (o : Outcome). o.name) D.outcome ∙ ap (λ (y : Slot). y.name) its;
        machine = D.shows.machine
            ∙ ap (λ (m : Machine). with_slots m (release m.slots s) (remember m.memory (slot_at m.slots s).key)) K.machine
            ∙ ap (λ (y : Slot). with_slots (view w n) (release (set (slots_of w n) s x) s) (remember (memory_of w) y.key)) (set_there (slots_of w n) s x (slots_length w n) h);
        store = refl;
        ledger = refl;
      })

-- the two numbers of the ledger, written one after the other
pub ledger-written : (ledger l1 l2 : List ℕ) (s k j o z x : ℕ) → k ≡ j → z ≡ x → l1 ≡ set ledger (2 * max_fragments * s + 2 * k) o → l2 ≡ set l1 (2 * max_fragments * s + 2 * k + 1) z
    → l2 ≡ set (set ledger (row s j) o) (row s j + 1) x
ledger-written ledger l1 l2 s k j o z x ek ez e1 e2 =
    let r = row_is ledger s k j ek in
    e2 ∙ ap (λ (l : List ℕ). set l (2 * max_fragments * s + 2 * k + 1) z) e1 ∙ (λ i. set (set ledger (r i) o) (r i + 1) (ez i))

-- ---- a slot is taken

pub oldest-within : (w : List ℕ) (s : ℕ) → s ≡ lowest_ranked_lem w turns slot_count → s < slot_count
oldest-within w s e = omega (arith, e, (lowest-is w turns (slot_count - 1)).inside)

module _ (w n : List ℕ) where
  pub seated-free : Shaped w n → (free : ℕ) → Some free ≡ first_below (free_in w) slot_count → Seats w n (record { at = free; emptied = Nobody }) w n
  seated-free sh free e =
      let t = seat-free (slots_of w n) free (free-slot w n ∙ ap option_of (sym e)) in
      record {
        place = sym (ap (λ (x : step.Seat). x.at) t);
        emptied = sym (ap (λ (x : step.Seat). x.emptied) t);
        inside = first-within (free_in w) slot_count free (sym e);
        shows = record { machine = sym (ap (λ (x : step.Seat). with_slots (view w n) x.slots (memory_of w)) t); shape = sh };
      }

  pub seated-full : (s a q : ℕ) (w0 n0 : List ℕ) → None ≡ first_below (free_in w) slot_count → s ≡ lowest_ranked_lem w turns slot_count
      → a ≡ at w s sender_word → q ≡ at w s sequence_word → Releases w n s w0 n0 → Seats w n (record { at = s; emptied = Was (key_of a q) }) w0 n0
  seated-full s a q w0 n0 e es ea eq R =
      let inside : s < slot_count = oldest-within w s es in
      let old : s ≡ oldest (slots_of w n) = es ∙ sym (oldest-slot w n) in
      let key : key_of a q ≡ (slot_at (slots_of w n) s).key = (λ i. key_of (ea i) (eq i)) ∙ key-is w n s inside in
      let t = seat-full (slots_of w n) (free-slot w n ∙ ap option_of (sym e)) in
      record {
        place = old ∙ sym (ap (λ (x : step.Seat). x.at) t);
        emptied = ap Was key ∙ ap (λ (i : ℕ). Was (slot_at (slots_of w n) i).key) old ∙ sym (ap (λ (x : step.Seat). x.emptied) t);
        inside = inside;
        shows = record {
          machine = R.machine ∙ ap (λ (i : ℕ). with_slots (view w n) (release (slots_of w n) i) (memory_of w)) old
              ∙ sym (ap (λ (x : step.Seat). with_slots (view w n) x.slots (memory_of w)) t);
          shape = R.shape;
        };
      }

-- ---- step 4

pub begun : (w n : List ℕ) (sender : ℕ) (h : Header) (t : Seat) (w0 n0 w1 n1 : List ℕ) → Seats w n t w0 n0 → Occupies w0 n0 t.at sender h w1 n1
    → Begins w n sender h t w1 n1
begun w n sender h t w0 n0 w1 n1 T O = record {
  place = T.place;
  emptied = T.emptied;
  inside = T.inside;
  shows = λ d. record {
    machine = (O d).machine
        ∙ ap (λ (m : Machine). with_slots m (set m.slots t.at (opening m.slots (key_of sender h.sequence) (fragment_in d h))) m.memory) T.shows.machine;
    shape = (O d).shape;
  };
}
