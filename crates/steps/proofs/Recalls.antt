-- WHAT IS REMEMBERED, OVER ANY RUN OF CALLS, forgets included: the memory is that of the calls' deliveries and forgettings, in their order.
use Rattle.wire.proofs.Basics.{◌∙◌, sym, ◌≡◌, ap, refl, subst, ℕ, List, false, inl, inr, set}
use Rattle.wire.proofs.Choices.{either, never}
use Rattle.datagram.specs.Limits.{max_fragments}
use Rattle.datagram.specs.Said.{Said, Fragment, said}
use Rattle.steps.specs.Memory.{Key, key_of, Memory, is_remembered_lem, remember, forget_keys, Deed, memory_after, among_last}
use Rattle.steps.specs.Slots.{Slot, slot_at, opening, filled, all_held_lem, seat, Emptied, Nobody}
use Rattle.steps.specs.Receive.{Machine, After, Answer, Refused, Kept, Repeat, Delivered, opened, stay, step5, step, forget, sequence_of}
use Rattle.steps.specs.Runs.{from, key_in}
use Rattle.steps.specs.Reach.{Reached, opens, receives, forgets, is_accepted, noted, deeds}
use Rattle.steps.proofs.Memories.{whole-ok}
use Rattle.steps.proofs.Latest.{recalled_exactly}
use Rattle.steps.proofs.Seats.{key_at, same-its-key, Found, open-found, set_there}
use Rattle.steps.proofs.Branches.{Course, unmoved, given, joined, begun, course, step5-delivered, step5-kept}
use Rattle.steps.proofs.Ranks.{Sat}
use Rattle.steps.proofs.Reaches.{Good, seat-sat, reached-good}

-- what is not accepted is not noted
noted-not : (x : Answer) (k : Key) (h : List Deed) → is_accepted x ≡ false → noted x k h ≡ h
noted-not (Refused n) k h e = refl
noted-not Kept k h e = refl
noted-not Repeat k h e = refl
noted-not (Delivered p n) k h e = never refl e

-- a leaves the memory of h, and of key k where it delivers
abbrev Tells : Key → List Deed → After → Type 0
Tells k h a = a.machine.memory ≡ memory_after (noted a.answer k h)

module _ (m : Machine) (h : List Deed) (e : m.memory ≡ memory_after h) (store ledger : List ℕ) where
  -- step 5 remembers its slot's key where the message is whole
  step5-tells : (k : Key) (slots : List Slot) (gone : Emptied) (s : ℕ) (f : Fragment) → key_at slots s ≡ k → Tells k h (step5 m slots store ledger gone s f)
  unfolding filled memory_after
  step5-tells k slots gone s f q = elim (either (all_held_lem (filled (slot_at slots s) f))) [
    | inl z ↦ subst (Tells k h) (sym (step5-delivered m slots store ledger s f z gone)) (λ i. remember (e i) (q i))
    | inr z ↦ subst (Tells k h) (sym (step5-kept m slots store ledger s f z gone)) e
  ]

  call-tells : (n : ℕ) → Good n m → (sender : ℕ) (d : List ℕ) → Tells (key_in m.slot_size_lem (from sender d)) h (step m store ledger sender d)
  unfolding stay memory_after opening
  call-tells n g sender d = go (course m store ledger sender d)
    where
      its : {r : Said} → said m.slot_size_lem max_fragments d ≡ r → key_of sender (sequence_of r) ≡ key_in m.slot_size_lem (from sender d)
      its t = ap (λ (r : Said). key_of sender (sequence_of r)) (sym t)

      go : Course m store ledger sender (said m.slot_size_lem max_fragments d) (step m store ledger sender d) → Tells (key_in m.slot_size_lem (from sender d)) h (step m store ledger sender d)
      go (unmoved x t z) = subst (Tells (key_in m.slot_size_lem (from sender d)) h) (sym z) (e ∙ ap memory_after (sym (noted-not x (key_in m.slot_size_lem (from sender d)) h t)))
      go (given q name payload t p z) = subst (Tells (key_in m.slot_size_lem (from sender d)) h) (sym z) (λ i. remember (e i) (its t i))
      go (joined f s t p z) =
          let r : Found m.slots (key_of sender f.sequence) s = open-found m.slots g.tidy.eight (key_of sender f.sequence) s p in
          subst (Tells (key_in m.slot_size_lem (from sender d)) h) (sym z) (step5-tells (key_in m.slot_size_lem (from sender d)) m.slots Nobody s f (r.its-key ∙ its t))
      go (begun f t u p z) =
          let y : Sat m.slots (seat m.slots) = seat-sat n m g in
          let rest : List Slot = (seat m.slots).slots in
          let at : ℕ = (seat m.slots).at in
          let k : Key = key_of sender f.sequence in
          subst (Tells (key_in m.slot_size_lem (from sender d)) h) (sym z)
          (step5-tells (key_in m.slot_size_lem (from sender d)) (set rest at (opening rest k f)) (seat m.slots).emptied at f
          (same-its-key (set_there rest at (opening rest k f) y.shrunk.eight y.inside) ∙ its t))

pub memory-told : {n : ℕ} {m : Machine} (r : Reached n m) → m.memory ≡ memory_after (deeds r)
unfolding opened deeds memory_after forget
memory-told opens = refl
memory-told {n} (receives {m = m} r store ledger sender d) = call-tells m (deeds r) (memory-told r) store ledger n (reached-good n m r) sender d
memory-told {n} (forgets {m = m} r sender) = rw (whole-ok m.memory (reached-good n m r).whole) (ap (λ (x : Memory). forget_keys x sender) (memory-told r))

-- THE THEOREM: a key is remembered exactly when it is among its sender's last 32 deliveries since that sender was last forgotten or dropped, and the sender is among
-- the 16 whose latest deliveries are the latest
pub remembered_exactly : {n : ℕ} {m : Machine} (r : Reached n m) (k : Key) → is_remembered_lem m.memory k ≡ among_last (deeds r) k
remembered_exactly r k = ap (λ (x : Memory). is_remembered_lem x k) (memory-told r) ∙ recalled_exactly (deeds r) k
