-- The states that calls can reach from an opening, what each of them keeps to, and, over the calls that led there, the order of opening and what was
-- delivered and forgotten. Definitions only.
use Rattle.std.specs.Prelude.{◌≡◌, ◌≢◌, Bool, true, false, not, ◌&&◌, List, [], ◌∷◌, ℕ, suc, ◌<◌, length}
use Rattle.std.proofs.Math.Option.{Option, none, some}
use Rattle.wire.specs.Choice.{pick}
use Rattle.steps.specs.Limits.{slot_count, ledger_length}
use Rattle.steps.specs.Memory.{Key, same_key, is_remembered_lem, Deed, delivery, forgetting}
use Rattle.steps.specs.Slots.{busy, slot_at, find_open_lem, open_count_lem}
use Rattle.steps.specs.Receive.{Machine, InDatagram, InStore, Answer, Refused, Kept, Repeat, Delivered, opened, step, forget, sound}
use Rattle.steps.specs.Answers.{emptied_key}
use Rattle.steps.specs.Runs.{World, lending, Arrival, from, key_in, call}

-- opened over a store of n bytes, then any calls, with whatever store and ledger is lent to each
pub data Reached (n : ℕ) : Machine → Type 0 where
  opens : Reached n (opened n)
  receives : {m : Machine} → Reached n m → (store ledger : List ℕ) (sender : ℕ) (d : List ℕ) → Reached n (step m store ledger sender d).machine
  forgets : {m : Machine} → Reached n m → (sender : ℕ) → Reached n (forget m sender).machine

-- an open slot whose turn is t
pub record Turned (m : Machine) (t : ℕ) : Type 0 where
  pub slot : ℕ
  pub inside : slot < slot_count
  pub is_open_lem : busy (slot_at m.slots slot) ≡ true
  pub its-turn : (slot_at m.slots slot).turn ≡ t

pub record InOrder (n : ℕ) (m : Machine) : Type 0 where
  -- with a store and a ledger of the lengths of opening it is sound, and no datagram is refused by 9
  pub is-sound : sound m n ledger_length ≡ true
  pub never-nine : (store ledger : List ℕ) → length store ≡ n → length ledger ≡ ledger_length → (sender : ℕ) (d : List ℕ)
      → (step m store ledger sender d).answer ≢ Refused 9
  -- at most one open slot for a key
  pub one-slot : (s t : ℕ) → s < slot_count → t < slot_count → busy (slot_at m.slots s) ≡ true → busy (slot_at m.slots t) ≡ true
      → (slot_at m.slots s).key ≡ (slot_at m.slots t).key → s ≡ t
  -- no remembered key is open
  pub not-both : (s : ℕ) → s < slot_count → busy (slot_at m.slots s) ≡ true → is_remembered_lem m.memory (slot_at m.slots s).key ≡ false
  -- the turns of the open slots are below their number, each turn once
  pub turns-below : (s : ℕ) → s < slot_count → busy (slot_at m.slots s) ≡ true → (slot_at m.slots s).turn < open_count_lem m.slots
  pub turns-once : (s t : ℕ) → s < slot_count → t < slot_count → busy (slot_at m.slots s) ≡ true → busy (slot_at m.slots t) ≡ true
      → (slot_at m.slots s).turn ≡ (slot_at m.slots t).turn → s ≡ t
  -- from 0 up
  pub turns-all : (t : ℕ) → t < open_count_lem m.slots → Turned m t

-- ---- the order of opening, told by the calls and not by turns

abbrev pub found : Option ℕ → Bool
found none = false
found (some s) = true

-- key k is open
abbrev pub is_open : Machine → Key → Bool
is_open m k = found (find_open_lem m.slots k)

-- key k is neither open nor remembered
pub record Unknown (m : Machine) (k : Key) : Type 0 where
  pub not-open : is_open m k ≡ false
  pub not-remembered : is_remembered_lem m.memory k ≡ false

-- accepted: Kept or Delivered
abbrev pub is_accepted : Answer → Bool
is_accepted (Refused n) = false
is_accepted Kept = true
is_accepted Repeat = false
is_accepted (Delivered p n) = true

-- a fragment was stored
abbrev pub is_stored : Answer → Bool
is_stored (Refused n) = false
is_stored Kept = true
is_stored Repeat = false
is_stored (Delivered (InDatagram at) n) = false
is_stored (Delivered (InStore at) n) = true

-- the call opens a slot: the key of its datagram is not open, and a fragment is stored
unfoldable pub opens_slot : World → Arrival → Bool
opens_slot w x = not (is_open w.machine (key_in w.machine.slot_size_lem x)) && is_stored (call w x).answer

-- for key k
unfoldable pub opens_for : World → Arrival → Key → Bool
opens_for w x k = same_key (key_in w.machine.slot_size_lem x) k && opens_slot w x

-- how many calls ago a slot was last opened for key k
unfoldable pub ago : {n : ℕ} {m : Machine} → Reached n m → Key → ℕ
ago opens k = 0
ago (receives {m = m} r store ledger sender d) k = pick (opens_for (lending m store ledger) (from sender d) k) 0 (suc (ago r k))
ago (forgets r sender) k = suc (ago r k)

-- all eight slots are open, and of the open keys k is the one whose opening lies furthest back
pub record FurthestBack {n : ℕ} {m : Machine} (r : Reached n m) (k : Key) : Type 0 where
  pub all-open : open_count_lem m.slots ≡ slot_count
  pub is_open_lem : is_open m k ≡ true
  pub furthest : (j : Key) → is_open m j ≡ true → j ≢ k → ago r j < ago r k

pub record OldestFirst {n : ℕ} {m : Machine} (r : Reached n m) : Type 0 where
  -- the turns are in the order of opening
  pub order : (s t : ℕ) → s < slot_count → t < slot_count → busy (slot_at m.slots s) ≡ true → busy (slot_at m.slots t) ≡ true
      → (slot_at m.slots s).turn < (slot_at m.slots t).turn → ago r (slot_at m.slots t).key < ago r (slot_at m.slots s).key
  -- whatever comes next, the key that it empties is the one whose opening lies furthest back
  pub emptied : (store ledger : List ℕ) (sender : ℕ) (d : List ℕ) (k : Key) → emptied_key (step m store ledger sender d).emptied ≡ some k → FurthestBack r k

-- ---- what is remembered, told by the calls and not by places and turns

-- what a call adds to the deliveries and forgettings before it: its datagram's key, where it delivers
abbrev pub noted : Answer → Key → List Deed → List Deed
noted (Refused n) k h = h
noted Kept k h = h
noted Repeat k h = h
noted (Delivered p n) k h = delivery k ∷ h

-- the deliveries and forgettings of the calls that led there, the latest first
unfoldable pub deeds : {n : ℕ} {m : Machine} → Reached n m → List Deed
deeds opens = []
deeds (receives {m = m} r store ledger sender d) = noted (step m store ledger sender d).answer (key_in m.slot_size_lem (from sender d)) (deeds r)
deeds (forgets r sender) = forgetting sender ∷ deeds r
