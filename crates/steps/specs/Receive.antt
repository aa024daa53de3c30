-- The receiver's step list, in the order and words of document 01, "The receiver". Definitions only.
use Rattle.std.specs.Prelude.{Bool, true, not, ◌&&◌, ◌||◌, List, ℕ, suc, ◌+◌, ◌*◌, min, eqb, leb, ltb, length, get_or, set, take, drop, replicate}
use Rattle.std.proofs.Math.Option.{Option, none, some}
use Rattle.wire.specs.Choice.{pick, ◌when◌else◌}
use Rattle.wire.specs.Same.{same}
use Rattle.wire.specs.Overlay.{overlay}
use Rattle.datagram.specs.Limits.{max_fragments}
use Rattle.datagram.specs.Said.{Said, refused, small, fragment, Fragment, said}
use Rattle.steps.specs.Limits.{slot_count, ledger_length, slot_size_of}
use Rattle.steps.specs.Search.{all_below}
use Rattle.steps.specs.Held.{is_held}
use Rattle.steps.specs.Memory.{Key, key_of, Memory, empty_memory, is_remembered_lem, remember, forget_keys, memory_ok}
use Rattle.steps.specs.Slots.{Slot, busy, no_slot, slot_at, find_open_lem, release, release_of, Seat, seat, opening, filled, all_held_lem, no_name_lem, padded, Emptied, Nobody}
pub use Rattle.steps.specs.declared.PayloadAt.{PayloadAt}
pub use Rattle.steps.specs.declared.PayloadAt.TheVariants.{InDatagram, InStore}

-- the answer to a datagram: refused by the number of document 01, or a payload delivered, with its place and its length
pub data Answer : Type 0 where
  Refused : ℕ → Answer
  Kept : Answer
  Repeat : Answer
  Delivered : PayloadAt → ℕ → Answer

-- what the receiver knows between two calls: the length of the store at opening, the slot size C, the slots, the memory of keys
pub record Machine : Type 0 where
  pub store_length : ℕ
  pub slot_size_lem : ℕ
  pub slots : List Slot
  pub memory : Memory

-- a fresh receiver over a store of n bytes
unfoldable pub opened : ℕ → Machine
opened n = record { store_length = n; slot_size_lem = slot_size_of n; slots = replicate slot_count no_slot; memory = empty_memory }

abbrev pub with_slots : Machine → List Slot → Memory → Machine
with_slots m slots memory = record { store_length = m.store_length; slot_size_lem = m.slot_size_lem; slots = slots; memory = memory }

-- what a call leaves, and what it answers: the answer, the emptied key beside it, and for Delivered the name
pub record After : Type 0 where
  pub machine : Machine
  pub store : List ℕ
  pub ledger : List ℕ
  pub answer : Answer
  pub emptied : Emptied
  pub name : List ℕ

-- nothing is altered
unfoldable pub stay : Machine → List ℕ → List ℕ → Answer → After
stay m store ledger a = record { machine = m; store = store; ledger = ledger; answer = a; emptied = Nobody; name = no_name_lem }

-- ---- the ledger and the store

-- where the ledger has the offset of fragment k of slot s; its length is the next number
abbrev pub row : ℕ → ℕ → ℕ
row s k = 2 * (max_fragments * s + k)

abbrev pub offset_of : List ℕ → ℕ → ℕ → ℕ
offset_of ledger s k = get_or ledger (row s k) 0

abbrev pub length_of : List ℕ → ℕ → ℕ → ℕ
length_of ledger s k = get_or ledger (row s k + 1) 0

-- slot s owns the bytes sC up to (s + 1)C: where fragment f begins in the store
abbrev pub place_of : ℕ → ℕ → Fragment → ℕ
place_of C s f = s * C + f.offset

-- storing changes the fragment's own bytes in the store
abbrev pub store_with : ℕ → List ℕ → ℕ → Fragment → List ℕ
store_with C store s f = overlay store (place_of C s f) f.bytes

-- and its two ledger numbers, nothing else
abbrev pub ledger_with : List ℕ → ℕ → Fragment → List ℕ
ledger_with ledger s f = set (set ledger (row s f.number) f.offset) (row s f.number + 1) (length f.bytes)

-- ---- steps 1 to 4 decide, the first that fits

pub data Verdict : Type 0 where
  -- refused, with that number
  refuse : ℕ → Verdict
  -- a repeat
  again : Verdict
  -- a small message with that name and a payload of that length
  deliver : List ℕ → ℕ → Verdict
  -- the fragment goes into that open slot
  join : ℕ → Fragment → Verdict
  -- the fragment opens a slot
  begin : Fragment → Verdict

-- 1. Key remembered: Repeat, whatever the bytes.
abbrev pub step1 : Machine → Key → Verdict → Verdict
step1 m k otherwise = pick (is_remembered_lem m.memory k) again otherwise

-- 2. Small: if the key is open in a slot, refusal 8; else Delivered.
abbrev pub step2 : Option ℕ → List ℕ → List ℕ → Verdict
step2 (some s) name payload = refuse 8
step2 none name payload = deliver name (length payload)

-- P and n are the slot's
abbrev pub same_message : Slot → Fragment → Bool
same_message slot f = eqb f.size slot.size && eqb f.count slot.count

-- offset, length, data and, for k = 0, name are the same
unfoldable pub same_fragment_lem : ℕ → List ℕ → List ℕ → ℕ → Slot → Fragment → Bool
same_fragment_lem C store ledger s slot f =
    eqb (offset_of ledger s f.number) f.offset
    && (eqb (length_of ledger s f.number) (length f.bytes)
    && (same (take (length f.bytes) (drop (place_of C s f) store)) f.bytes
    && pick (eqb f.number 0) (same slot.name (padded f.name)) true))

-- Of two, the lower number i ends at or before the higher j begins, and exactly there when the numbers are neighbours.
abbrev pub in_order_lem : ℕ → ℕ → ℕ → ℕ → Bool
in_order_lem i ends j begins = pick (eqb (suc i) j) (eqb ends begins) (leb ends begins)

-- fragment f beside the held fragment j of slot s
unfoldable pub agrees : List ℕ → ℕ → Fragment → ℕ → Bool
agrees ledger s f j =
    pick (ltb j f.number)
    (in_order_lem j (offset_of ledger s j + length_of ledger s j) f.number f.offset)
    (in_order_lem f.number (f.offset + length f.bytes) j (offset_of ledger s j))

-- and beside every held one; a number at or above n is no fragment of the message and is not compared
abbrev pub agrees_with_all : List ℕ → ℕ → Slot → Fragment → Bool
agrees_with_all ledger s slot f = all_below slot.count (λ j. not (is_held slot.held j) || agrees ledger s f j)

-- If number k is held: Repeat when it is the same fragment; else 8. Otherwise compare with every held fragment; else 8.
abbrev pub of_that_message : ℕ → List ℕ → List ℕ → ℕ → Slot → Fragment → Verdict
of_that_message C store ledger s slot f =
    pick (same_fragment_lem C store ledger s slot f) again (refuse 8) when is_held slot.held f.number else
    pick (agrees_with_all ledger s slot f) (join s f) (refuse 8)

-- 3. Key open: P and n must be the slot's, else 8.
unfoldable pub step3 : ℕ → List ℕ → List ℕ → ℕ → Slot → Fragment → Verdict
step3 C store ledger s slot f = pick (same_message slot f) (of_that_message C store ledger s slot f) (refuse 8)

-- 4. Key not open: a slot is taken.
abbrev pub step3or4 : Machine → List ℕ → List ℕ → Fragment → Option ℕ → Verdict
step3or4 m store ledger f (some s) = step3 m.slot_size_lem store ledger s (slot_at m.slots s) f
step3or4 m store ledger f none = begin f

-- If the datagram reader refuses, the receiver passes that number on and goes no further.
unfoldable pub decide : Machine → List ℕ → List ℕ → ℕ → Said → Verdict
decide m store ledger sender (refused n) = refuse n
decide m store ledger sender (small q name payload) =
    step1 m (key_of sender q) (step2 (find_open_lem m.slots (key_of sender q)) name payload)
decide m store ledger sender (fragment f) =
    step1 m (key_of sender f.sequence) (step3or4 m store ledger f (find_open_lem m.slots (key_of sender f.sequence)))

-- ---- what is then done

-- the message in slot s is whole: the slot is freed, the key remembered, and the payload is the first P bytes of that slot's part of the store
abbrev pub delivered_from : Machine → List Slot → List ℕ → List ℕ → Emptied → ℕ → Slot → After
delivered_from m slots store ledger gone s slot = record {
  machine = with_slots m (release slots s) (remember m.memory slot.key);
  store = store;
  ledger = ledger;
  answer = Delivered (InStore (s * m.slot_size_lem)) slot.size;
  emptied = gone;
  name = slot.name;
}

abbrev pub kept_in : Machine → List Slot → List ℕ → List ℕ → Emptied → After
kept_in m slots store ledger gone = record {
  machine = with_slots m slots m.memory;
  store = store;
  ledger = ledger;
  answer = Kept;
  emptied = gone;
  name = no_name_lem;
}

-- 5. The fragment is stored. If all n are now held, the answer is Delivered; otherwise Kept. (Slot s of slots is open.)
unfoldable pub step5 : Machine → List Slot → List ℕ → List ℕ → Emptied → ℕ → Fragment → After
step5 m slots store ledger gone s f =
    let slot : Slot = filled (slot_at slots s) f in
    let slots' : List Slot = set slots s slot in
    let store' : List ℕ = store_with m.slot_size_lem store s f in
    let ledger' : List ℕ = ledger_with ledger s f in
    pick (all_held_lem slot) (delivered_from m slots' store' ledger' gone s slot) (kept_in m slots' store' ledger' gone)

-- a small message is delivered: the key remembered, no slot used; its payload follows 8 bytes, the name and a zero byte
abbrev pub delivered_small : Machine → List ℕ → List ℕ → Key → List ℕ → ℕ → After
delivered_small m store ledger k name n = record {
  machine = with_slots m m.slots (remember m.memory k);
  store = store;
  ledger = ledger;
  answer = Delivered (InDatagram (9 + length name)) n;
  emptied = Nobody;
  name = padded name;
}

-- 4 and 5: the slot is taken, and the fragment stored there
abbrev pub begin_at : Machine → List ℕ → List ℕ → Key → Fragment → Seat → After
begin_at m store ledger k f t =
    step5 m (set t.slots t.at (opening t.slots k f)) store ledger t.emptied t.at f

unfoldable pub act : Machine → List ℕ → List ℕ → Key → Verdict → After
act m store ledger k (refuse n) = stay m store ledger (Refused n)
act m store ledger k again = stay m store ledger Repeat
act m store ledger k (deliver name n) = delivered_small m store ledger k name n
act m store ledger k (join s f) = step5 m m.slots store ledger Nobody s f
act m store ledger k (begin f) = begin_at m store ledger k f (seat m.slots)

abbrev pub sequence_of : Said → ℕ
sequence_of (refused n) = 0
sequence_of (small q name payload) = q
sequence_of (fragment f) = f.sequence

unfoldable pub receive : Machine → List ℕ → List ℕ → ℕ → Said → After
receive m store ledger sender r = act m store ledger (key_of sender (sequence_of r)) (decide m store ledger sender r)

-- ---- refusal 9, and the whole call

-- a free slot, or P not over C and n not over 1,024 (n = 0 is a free slot)
abbrev pub slot_ok : ℕ → Slot → Bool
slot_ok C slot = not (busy slot) || (leb slot.size C && leb slot.count max_fragments)

-- The store has its length of opening, the ledger 16,384 numbers, C is the store's, every slot is in order, and not over 16 senders are remembered, nor over 32 keys for one.
unfoldable pub sound : Machine → ℕ → ℕ → Bool
sound m store_length ledger_size =
    eqb store_length m.store_length
    && (eqb ledger_size ledger_length
    && (eqb m.slot_size_lem (slot_size_of store_length)
    && (all_below slot_count (λ s. slot_ok m.slot_size_lem (slot_at m.slots s))
    && memory_ok m.memory)))

-- The call, for the machine, the lent store and ledger, the sender and the datagram. C is the limit of refusal 6.
unfoldable pub step : Machine → List ℕ → List ℕ → ℕ → List ℕ → After
step m store ledger sender d =
    pick (sound m (length store) (length ledger))
    (receive m store ledger sender (said m.slot_size_lem max_fragments d))
    (stay m store ledger (Refused 9))

-- The call within further limits, of a payload and of its fragments: they bind beside C and 1,024, by 6 and 5 (document 02, L10).
unfoldable pub step_within : ℕ → ℕ → Machine → List ℕ → List ℕ → ℕ → List ℕ → After
step_within payload fragments m store ledger sender d =
    pick (sound m (length store) (length ledger))
    (receive m store ledger sender (said (min m.slot_size_lem payload) (min max_fragments fragments) d))
    (stay m store ledger (Refused 9))

-- ---- forget

pub record Forgot : Type 0 where
  pub machine : Machine
  pub refusal : Option ℕ

-- That sender's slots are freed and its remembered keys dropped; the rest keep their order. Only a state with over 16 remembered senders, or over 32 keys for one, is refused, by 9.
unfoldable pub forget : Machine → ℕ → Forgot
forget m sender =
    pick (memory_ok m.memory)
    (record { machine = with_slots m (release_of sender slot_count m.slots) (forget_keys m.memory sender); refusal = none })
    (record { machine = m; refusal = some 9 })
