-- The eight slots: which is open for a key, which is taken, and in which order they were opened. Definitions only.
use Rattle.std.specs.Prelude.{Bool, not, ◌&&◌, List, [], ◌∷◌, ◌++◌, map, ℕ, zero, suc, ◌-◌, min, eqb, ltb, length, get_or, set, replicate}
use Rattle.std.proofs.Math.Option.{Option, none, some}
use Rattle.wire.specs.Choice.{pick}
use Rattle.datagram.specs.Limits.{max_name}
use Rattle.datagram.specs.Said.{Fragment}
use Rattle.steps.specs.Limits.{slot_count}
use Rattle.steps.specs.Search.{first, count, all_below}
use Rattle.steps.specs.Held.{none_held, is_held, hold}
use Rattle.steps.specs.Memory.{Key, no_key, same_key}
pub use Rattle.steps.specs.declared.Emptied.{Emptied}
pub use Rattle.steps.specs.declared.Emptied.TheVariants.{Nobody, Was}

-- A name in 63 bytes, the rest zeros. A name has no zero byte, so that its length need not be kept.
abbrev pub no_name_lem : List ℕ
no_name_lem = replicate max_name 0

abbrev pub padded : List ℕ → List ℕ
padded nm = nm ++ replicate (max_name - length nm) 0

-- a slot: the key of its message, P and n, its turn among the open slots (0 for the oldest), its name and which fragments are held
pub record Slot : Type 0 where
  pub key : Key
  pub size : ℕ
  pub count : ℕ
  pub turn : ℕ
  pub name : List ℕ
  pub held : List ℕ

-- a slot is open when its count is not 0
abbrev pub busy : Slot → Bool
busy slot = not (eqb slot.count 0)

-- a free slot, as it is left: all zeros
abbrev pub no_slot : Slot
no_slot = record { key = no_key; size = 0; count = 0; turn = 0; name = no_name_lem; held = none_held }

abbrev pub slot_at : List Slot → ℕ → Slot
slot_at slots s = get_or slots s no_slot

-- ---- a slot is found: of two to choose from the lower

abbrev pub has_key : Key → Slot → Bool
has_key k slot = busy slot && same_key slot.key k

-- the slot in which the key is open
abbrev pub find_open_lem : List Slot → Key → Option ℕ
find_open_lem slots k = first (has_key k) slots

abbrev pub is_free : Slot → Bool
is_free slot = not (busy slot)

-- the lowest free slot
abbrev pub find_free : List Slot → Option ℕ
find_free slots = first is_free slots

abbrev pub lowest_turn : List Slot → ℕ
lowest_turn [] = 0
lowest_turn (x ∷ []) = x.turn
lowest_turn (x ∷ y ∷ ys) = min x.turn (lowest_turn (y ∷ ys))

abbrev pub or_zero : Option ℕ → ℕ
or_zero none = 0
or_zero (some s) = s

-- the slot that was opened longest ago
unfoldable pub oldest : List Slot → ℕ
oldest slots = or_zero (first (λ slot. eqb slot.turn (lowest_turn slots)) slots)

unfoldable pub open_count_lem : List Slot → ℕ
open_count_lem slots = count (λ s. busy (slot_at slots s)) slot_count

-- ---- a slot is freed

-- a slot of turn t was freed: each open slot with a turn above t moves down by one
unfoldable pub lower : ℕ → Slot → Slot
lower t slot = record {
  key = slot.key;
  size = slot.size;
  count = slot.count;
  turn = pick (busy slot && ltb t slot.turn) (slot.turn - 1) slot.turn;
  name = slot.name;
  held = slot.held;
}

unfoldable pub release : List Slot → ℕ → List Slot
release slots s = map (lower (slot_at slots s).turn) (set slots s no_slot)

-- slot a is freed where it is open for that sender
abbrev pub release_one_lem : ℕ → ℕ → List Slot → List Slot
release_one_lem from a slots = pick (busy (slot_at slots a) && eqb (slot_at slots a).key.sender from) (release slots a) slots

-- the slots below a of that sender are freed, the lowest first
unfoldable pub release_of : ℕ → ℕ → List Slot → List Slot
release_of from zero slots = slots
release_of from (suc a) slots = release_one_lem from a (release_of from a slots)

-- ---- a slot is taken

-- the slot to take, the slots once it is free, and the key that was emptied for it
pub record Seat : Type 0 where
  pub at : ℕ
  pub slots : List Slot
  pub emptied : Emptied

abbrev pub seat_at : List Slot → Option ℕ → Seat
seat_at slots (some s) = record { at = s; slots = slots; emptied = Nobody }
seat_at slots none = record { at = oldest slots; slots = release slots (oldest slots); emptied = Was (slot_at slots (oldest slots)).key }

-- The lowest free slot. With none free, the slot that was opened longest ago is emptied first, and its key is reported.
unfoldable pub seat : List Slot → Seat
seat slots = seat_at slots (find_free slots)

-- a slot just opened: its turn is the number of slots then open
unfoldable pub opening : List Slot → Key → Fragment → Slot
opening slots k f = record { key = k; size = f.size; count = f.count; turn = open_count_lem slots; name = no_name_lem; held = none_held }

-- the slot with fragment f: fragment 0 brings the name
unfoldable pub filled : Slot → Fragment → Slot
filled slot f = record {
  key = slot.key;
  size = slot.size;
  count = slot.count;
  turn = slot.turn;
  name = pick (eqb f.number 0) (padded f.name) slot.name;
  held = hold slot.held f.number;
}

-- all n are held; a number at or above n is no fragment of the message and does not count
abbrev pub all_held_lem : Slot → Bool
all_held_lem slot = all_below slot.count (is_held slot.held)
