-- What calls promise besides, said for the theorems of proofs/: where a delivered payload lies, refusal 9's list, what forget leaves, what a fragment of an
-- open key has. Definitions only.
use Rattle.std.specs.Prelude.{◌≡◌, ◌≢◌, ◌⊎◌, true, false, List, ℕ, ◌+◌, ◌≤◌, ◌<◌, length, take, drop}
use Rattle.datagram.specs.Limits.{max_fragments}
use Rattle.datagram.specs.Said.{Fragment}
use Rattle.steps.specs.Limits.{slot_count, senders_most, keys_each, ledger_length, slot_size_of}
use Rattle.steps.specs.Held.{is_held}
use Rattle.steps.specs.Memory.{Key, Memory, place_at, is_remembered_lem}
use Rattle.steps.specs.Slots.{Slot, busy, slot_at, padded}
use Rattle.steps.specs.Receive.{Machine, PayloadAt, offset_of, length_of, place_of}
use Rattle.steps.specs.Answers.{holder, begins_at_lem, payload_at}

-- a payload of n bytes at p: all of it lies in what holds it, and so many bytes are handed over
pub record Lies (d store : List ℕ) (p : PayloadAt) (n : ℕ) : Type 0 where
  pub inside : begins_at_lem p + n ≤ length (holder d store p)
  pub long : length (take n (payload_at d store p)) ≡ n

-- over 16 remembered senders, or over 32 keys for one
pub data Crowded (m : Memory) : Type 0 where
  by-senders : senders_most < length m → Crowded m
  by-keys : (i : ℕ) → i < length m → keys_each < (place_at m i).used → Crowded m

-- Refusal 9: store length not that of opening, ledger not 16,384, or a state with C not the store's, an open slot's P over C or n outside 1 to 1,024
-- (an open slot's n is not 0), or over 16 remembered senders, or over 32 keys for one.
pub data Unfit (m : Machine) (store ledger : List ℕ) : Type 0 where
  by-store : length store ≢ m.store_length → Unfit m store ledger
  by-ledger : length ledger ≢ ledger_length → Unfit m store ledger
  by-slot-size : m.slot_size_lem ≢ slot_size_of (length store) → Unfit m store ledger
  by-slot : (s : ℕ) → s < slot_count → busy (slot_at m.slots s) ≡ true
      → ((m.slot_size_lem < (slot_at m.slots s).size) ⊎ (max_fragments < (slot_at m.slots s).count)) → Unfit m store ledger
  by-memory : Crowded m.memory → Unfit m store ledger

-- a slot but for its turn
abbrev pub unturned : Slot → Slot
unturned x = record { key = x.key; size = x.size; count = x.count; turn = 0; name = x.name; held = x.held }

-- that sender is forgotten: m before, m' after
pub record Forgotten (from : ℕ) (m m' : Machine) : Type 0 where
  -- no open slot and no remembered key is that sender's, whichever slot
  pub none_open_lem : (s : ℕ) → busy (slot_at m'.slots s) ≡ true → (slot_at m'.slots s).key.sender ≢ from
  pub none-remembered : (k : Key) → k.sender ≡ from → is_remembered_lem m'.memory k ≡ false
  -- the rest stay as they are, and nothing is opened
  pub others-open : (s : ℕ) → busy (slot_at m.slots s) ≡ true → (slot_at m.slots s).key.sender ≢ from → busy (slot_at m'.slots s) ≡ true
  pub as_before : (s : ℕ) → busy (slot_at m'.slots s) ≡ true → unturned (slot_at m'.slots s) ≡ unturned (slot_at m.slots s)
  pub others-remembered : (k : Key) → k.sender ≢ from → is_remembered_lem m'.memory k ≡ is_remembered_lem m.memory k
  -- in their order of opening
  pub order : (s t : ℕ) → s < slot_count → t < slot_count → busy (slot_at m'.slots s) ≡ true → busy (slot_at m'.slots t) ≡ true
      → (slot_at m.slots s).turn < (slot_at m.slots t).turn → (slot_at m'.slots s).turn < (slot_at m'.slots t).turn

-- fragment f has the P and n of the slot
pub record OfMessage (slot : Slot) (f : Fragment) : Type 0 where
  pub same_size : f.size ≡ slot.size
  pub same_count : f.count ≡ slot.count

-- and is held in slot s, with the same offset, length, data and, for k = 0, name
pub record Copy (C : ℕ) (store ledger : List ℕ) (s : ℕ) (slot : Slot) (f : Fragment) : Type 0 where
  pub is-held : is_held slot.held f.number ≡ true
  pub same-offset : offset_of ledger s f.number ≡ f.offset
  pub same_length : length_of ledger s f.number ≡ length f.bytes
  pub same_data : take (length f.bytes) (drop (place_of C s f) store) ≡ f.bytes
  pub same_name : f.number ≡ 0 → slot.name ≡ padded f.name
