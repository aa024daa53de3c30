-- One message in its slot, and what a call or a forgetting beside it leaves of it.
use Rattle.wire.proofs.Basics.{◌∙◌, sym, ◌≡◌, ap, refl, subst, ℕ, ◌≤◌, ◌+◌, ◌<◌, suc, ◌*◌, suc-le-suc, List, true, false, Bool, inl, inr, ◌≢◌, length, set, length-set, get_or-set_other, le_trans, arith}
use native.Mathlib.Nat.{le_of_eq}
use Rattle.wire.proofs.Choices.{either, never}
use Rattle.datagram.specs.Limits.{max_fragments}
use Rattle.datagram.specs.Said.{Fragment}
use Rattle.datagram.proofs.Saids.{Formed}
use Rattle.steps.specs.declared.Emptied.{Emptied}
use Rattle.steps.specs.Limits.{slot_count}
use Rattle.steps.specs.Slots.{Slot, busy, no_slot, slot_at, open_count_lem, oldest, release, filled, all_held_lem, Seat, seat}
use Rattle.steps.specs.Receive.{Machine, After, place_of, store_with, ledger_with, step5}
use Rattle.steps.proofs.Seats.{unturned, look, busy_at, turn_at, oldest-low, left_busy, Seated, free, full, seated}
use Rattle.steps.proofs.Stores.{write-out, part_apart, row_apart, offset-other, length-other}
use Rattle.steps.proofs.Branches.{step5-delivered, step5-kept}
use Rattle.steps.proofs.Ranks.{Ranks, Shrunk, shrunk-release, fill-alike, ranks-fill, oldest-inside}
use Rattle.arrival.specs.Demand.{Message}
use Rattle.arrival.proofs.Joining.{Holds, holds-busy, holds_move}
use Rattle.arrival.proofs.Newer.{newer, newer-shrunk, newer-filled, newer-opened, oldest-newer}

-- slot s holds of message m the fragments g, and at most o open slots were opened after it
pub record Mine (C : ℕ) (m : Message) (g : ℕ → Bool) (o s : ℕ) (slots : List Slot) (store ledger : List ℕ) : Type 0 where
  pub inside : s < slot_count
  pub holds : Holds C m s g (look slots s) store ledger
  pub few-newer : newer slots (turn_at slots s) ≤ o

pub mine-busy : {C : ℕ} {m : Message} {g : ℕ → Bool} {o s : ℕ} {slots : List Slot} {store ledger : List ℕ} → Mine C m g o s slots store ledger → busy_at slots s ≡ true
mine-busy h = holds-busy h.holds

-- slots are freed, and not this one
pub mine-shrunk : {C : ℕ} {m : Message} {g : ℕ → Bool} {o s : ℕ} {old new : List Slot} {store ledger : List ℕ} → Ranks old → Shrunk old new → busy_at new s ≡ true
    → Mine C m g o s old store ledger → Mine C m g o s new store ledger
mine-shrunk {C} {m} {g} {o} {s} {old} {new} {store} {ledger} r h e k = record {
  inside = k.inside;
  holds = subst (λ (x : Slot). Holds C m s g x store ledger) (sym (h.as_before s e)) k.holds;
  few-newer = le_trans (newer-shrunk r h s k.inside e) k.few-newer;
}

-- another slot is opened
pub mine-opened : {C : ℕ} {m : Message} {g : ℕ → Bool} {o s : ℕ} {slots : List Slot} {store ledger : List ℕ} → length slots ≡ slot_count → Ranks slots
    → (t : ℕ) → t < slot_count → busy_at slots t ≡ false → (x : Slot) → busy x ≡ true → x.turn ≡ open_count_lem slots
    → Mine C m g o s slots store ledger → Mine C m g (suc o) s (set slots t x) store ledger
mine-opened {C} {m} {g} {o} {s} {slots} {store} {ledger} e r t b q x y z k =
    let n : s ≢ t = λ p. never (subst (λ (u : ℕ). busy_at slots u ≡ true) p (mine-busy k)) q in
    record {
      inside = k.inside;
      holds = subst (λ (u : Slot). Holds C m s g u store ledger) (sym (ap unturned (get_or-set_other slots t s x no_slot n))) k.holds;
      few-newer = le_trans (newer-opened slots e r t b q x y z s k.inside (mine-busy k)) (suc-le-suc k.few-newer);
    }

-- ---- a fragment is stored in another slot

module _ (C : ℕ) (slots : List Slot) (eight : length slots ≡ slot_count) (store ledger : List ℕ) (t : ℕ) (t< : t < slot_count) (f : Fragment) (form : Formed C max_fragments f)
    {m : Message} {g : ℕ → Bool} {o s : ℕ} (k : Mine C m g o s slots store ledger) (n : s ≢ t) where
  abbrev new : List Slot
  new = set slots t (filled (slot_at slots t) f)

  few : f.number < max_fragments
  few = omega (arith, form.below, form.few)

  in-part : f.offset + length f.bytes ≤ C
  in-part = le_trans form.inside form.fits

  mine-put : Mine C m g o s (set slots t (filled (slot_at slots t) f)) (store_with C store t f) (ledger_with ledger t f)
  mine-put = record {
    inside = k.inside;
    holds = subst (λ (x : Slot). Holds C m s g x (store_with C store t f) (ledger_with ledger t f)) (sym (ap unturned (get_or-set_other slots t s (filled (slot_at slots t) f) no_slot n)))
        (holds_move g (store_with C store t f) (ledger_with ledger t f) k.holds (λ j b. refl)
        (λ y b. write-out store (place_of C t f) f.bytes (s * C + y) (λ u v. part_apart t s C y f.offset (length f.bytes) n b in-part u v))
        (λ j b. offset-other ledger t f s j (row_apart t s j f.number b few (λ e z. n e)))
        (λ j b. length-other ledger t f s j (row_apart t s j f.number b few (λ e z. n e))));
    few-newer = le_trans (le_of_eq (newer-filled slots eight t t< f s)) k.few-newer;
  }

  module _ (mach : Machine) (sized : mach.slot_size_lem ≡ C) (r : Ranks slots) (t-busy : busy_at slots t ≡ true) (gone : Emptied) where
    abbrev Left : After → Type 0
    Left a = Mine C m g o s a.machine.slots a.store a.ledger

    new-eight : length new ≡ slot_count
    new-eight = length-set slots t (filled (slot_at slots t) f) ∙ eight

    new-busy : busy_at new t ≡ true
    new-busy = (fill-alike slots eight t t< f t).same-open ∙ t-busy

    put-here : Mine C m g o s new (store_with mach.slot_size_lem store t f) (ledger_with ledger t f)
    put-here = subst (λ (c : ℕ). Mine C m g o s new (store_with c store t f) (ledger_with ledger t f)) (sym sized) mine-put

    freed : Shrunk new (release new t)
    freed = shrunk-release new new-eight (ranks-fill slots eight t t< f r) t t< new-busy

    pub mine-step5 : Mine C m g o s (step5 mach slots store ledger gone t f).machine.slots (step5 mach slots store ledger gone t f).store (step5 mach slots store ledger gone t f).ledger
    mine-step5 = elim (either (all_held_lem (filled (slot_at slots t) f))) [
      | inl e ↦ subst Left (sym (step5-delivered mach slots store ledger t f e gone))
          (mine-shrunk (ranks-fill slots eight t t< f r) freed (left_busy new t s n ∙ mine-busy put-here) put-here)
      | inr e ↦ subst Left (sym (step5-kept mach slots store ledger t f e gone)) put-here
    ]

-- ---- a seat is taken: a slot with fewer than seven newer ones is not emptied

pub mine-seat : {C : ℕ} {m : Message} {g : ℕ → Bool} {o s : ℕ} {slots : List Slot} {store ledger : List ℕ} → length slots ≡ slot_count → Ranks slots → suc o < slot_count
    → Mine C m g o s slots store ledger → Mine C m g o s (seat slots).slots store ledger
mine-seat {C} {m} {g} {o} {s} {slots} {store} {ledger} e r few k = go (seat slots) (seated slots e)
  where
    spared : ((a : ℕ) → a < slot_count → busy_at slots a ≡ true) → s ≢ oldest slots
    spared all z =
        let seven : suc (newer slots (turn_at slots s)) ≡ slot_count = oldest-newer slots r s k.inside all
        (λ a b. subst (λ (y : ℕ). turn_at slots y ≤ turn_at slots a) (sym z) ((oldest-low slots (omega arith)).1 a (omega arith))) in
        omega (arith, k.few-newer)

    go : (t : Seat) → Seated slots t → Mine C m g o s t.slots store ledger
    go t (free a b q) = k
    go t (full all) =
        mine-shrunk r (shrunk-release slots e r (oldest slots) (oldest-inside slots e) (all (oldest slots) (oldest-inside slots e)))
        (left_busy slots (oldest slots) s (spared all) ∙ mine-busy k) k
