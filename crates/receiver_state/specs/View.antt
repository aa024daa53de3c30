-- THE BRIDGE: the machine of the step list that the lent words and names show. Definitions only.
-- A state: the store's length at opening, the slot size, a block of words for each slot, and the memory of keys. Names: as many bytes for each slot as a
-- name has at most.
use Rattle.std.specs.Prelude.{Bool, ◌&&◌, List, ℕ, ◌+◌, ◌*◌, eqb, length, get_or, take, drop}
use Rattle.datagram.specs.Limits.{max_name}
use Rattle.steps.specs.Limits.{slot_count}
use Rattle.steps.specs.Held.{held_words}
use Rattle.steps.specs.Memory.{key_of, Memory}
use Rattle.steps.specs.Slots.{Slot}
use Rattle.steps.specs.Receive.{Machine, sound}
use Rattle.memory.specs.Words.{memory_words, memory_in}
use Rattle.words.specs.Builds.{build}
use Rattle.slots.specs.Words.{block_words, block_at, sender_word, sequence_word, size_word, count_word, turn_word, held_word}

-- which words of the head are which
abbrev pub store_word : ℕ
store_word = 0

abbrev pub room_word : ℕ
room_word = 1

-- where the memory begins
abbrev pub memory_at : ℕ
memory_at = block_at slot_count

-- the words of a state
abbrev pub state_words_lem : ℕ
state_words_lem = memory_at + memory_words

-- the bytes of the names
abbrev pub name_bytes_lem : ℕ
name_bytes_lem = max_name * slot_count

-- the words of slot s, and the bytes of its name
abbrev pub block : List ℕ → ℕ → List ℕ
block w s = take block_words (drop (block_at s) w)

abbrev pub name_in : List ℕ → ℕ → List ℕ
name_in n s = take max_name (drop (max_name * s) n)

-- the slot that a block and a name show
abbrev pub slot_in : List ℕ → List ℕ → Slot
slot_in b n = record {
  key = key_of (get_or b sender_word 0) (get_or b sequence_word 0);
  size = get_or b size_word 0;
  count = get_or b count_word 0;
  turn = get_or b turn_word 0;
  name = n;
  held = take held_words (drop held_word b);
}

abbrev pub slot_of : List ℕ → List ℕ → ℕ → Slot
slot_of w n s = slot_in (block w s) (name_in n s)

unfoldable pub slots_of : List ℕ → List ℕ → List Slot
slots_of w n = build slot_count (slot_of w n)

abbrev pub memory_of : List ℕ → Memory
memory_of w = memory_in (drop memory_at w)

abbrev pub view : List ℕ → List ℕ → Machine
view w n = record { store_length = get_or w store_word 0; slot_size_lem = get_or w room_word 0; slots = slots_of w n; memory = memory_of w }

-- a state and names have their lengths
abbrev pub shaped : List ℕ → List ℕ → Bool
shaped w n = eqb (length w) state_words_lem && eqb (length n) name_bytes_lem

-- what is not refused by 9: they have their lengths, and the machine that they show is sound with a store and a ledger of these lengths
abbrev pub ready : List ℕ → List ℕ → ℕ → ℕ → Bool
ready w n store ledger = shaped w n && sound (view w n) store ledger
