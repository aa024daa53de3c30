-- Worked: the paper's B and A as a C host hands them in, with every word, byte and number that is lent: B to `qm_receive`; A to `qm_receive` without room, to `qm_receive_within`
-- with limits that refuse it, then with limits that let it through. Definitions only.
use Rattle.std.specs.Prelude.{true, List, [], ◌∷◌, ◌++◌, ℕ, ◌+◌, ◌-◌, set, replicate}
use Rattle.wire.specs.Slices.{◌⇒◌}
use Rattle.steps.specs.Limits.{ledger_length}
use Rattle.steps.specs.Worked.{A-of, B-of}
use Rattle.steps.specs.Runs.{Arrival}
use Rattle.receiver_state.specs.View.{memory_at, state_words_lem, name_bytes_lem}
use Rattle.receiver.specs.Lent.{Lent, lent}
use Rattle.flight_log.specs.declared.reader.Limits.{Limits}
use Rattle.memory.specs.Words.{used_at, turn_at, sequences_at}
use Rattle.arrival.specs.Demand.{Message, Scene, Feed, start, ◌▹◌, part, arrival}
use Rattle.host_laws.specs.Told.{Returned}

-- ---- the message, and a store of 32 bytes, slots of 4

abbrev pub abc : Message
abc = record { sender = 6; sequence = 7; name = 0x50 ∷ []; payload = 0x41 ∷ 0x42 ∷ 0x43 ∷ []; fragmented = true; datagrams = A-of 7 ∷ B-of 7 ∷ [] }

abbrev pub abc_scene : Scene
abc_scene = record { store = replicate 32 9; ledger = replicate ledger_length 7; messages = abc ∷ [] }

abbrev pub abc_feed : Feed
abc_feed = start ▹ part 0 1 ▹ part 0 0

abbrev pub A : Arrival
A = arrival abc_scene (part 0 0)

-- ---- what is lent

-- before opening, of the right lengths
abbrev pub any_words : List ℕ
any_words = replicate state_words_lem 5

abbrev pub any_names : List ℕ
any_names = replicate name_bytes_lem 5

abbrev pub no_names : List ℕ
no_names = replicate name_bytes_lem 0

abbrev pub open_words : List ℕ
open_words = 32 ∷ 4 ∷ replicate (state_words_lem - 2) 0

abbrev pub open_lent : Lent
open_lent = lent open_words no_names abc_scene.store abc_scene.ledger

-- once B is held: in slot 0 sender 6, sequence 7, P 3, n 2, turn 0 and the bit of fragment 1; its two bytes stand one byte into the slot
abbrev pub with_b : Lent
with_b = lent (32 ∷ 4 ∷ 6 ∷ 7 ∷ 3 ∷ 2 ∷ 0 ∷ 2 ∷ replicate (state_words_lem - 8) 0) no_names (9 ∷ 0x42 ∷ 0x43 ∷ replicate 29 9) (7 ∷ 7 ∷ 1 ∷ 2 ∷ replicate (ledger_length - 4) 7)

-- once it is whole: the slot is free again, and of sender 6 one key is remembered, the latest of all
abbrev pub remembering : List ℕ
remembering = set (set (set (set open_words memory_at 6) (memory_at + used_at 0) 1) (memory_at + turn_at 0) 15) (memory_at + sequences_at 0) 7

abbrev pub with_all : Lent
with_all = lent remembering no_names (0x41 ∷ 0x42 ∷ 0x43 ∷ replicate 29 9) (0 ∷ 1 ∷ 1 ∷ 2 ∷ replicate (ledger_length - 4) 7)

-- ---- what each call returns

-- B: 1 kept, sequence 7
abbrev pub B_returns : Returned
B_returns = record {
  told = replicate 9 8 ⇒ 1 ∷ 0 ∷ 0 ∷ 0 ∷ 0 ∷ 0 ∷ 0 ∷ 7 ∷ 8 ∷ [];
  name = replicate 64 8 ⇒ replicate 63 0 ++ 8 ∷ [];
  answer = 0;
}

-- A, with room for seven numbers: 13
abbrev pub A-lacks : Returned
A-lacks = record { told = replicate 7 8 ⇒ replicate 7 8; name = replicate 64 8 ⇒ replicate 64 8; answer = 13 }

-- A, within a payload of 2 bytes: 6
abbrev pub narrow : Limits
narrow = record { payload = 2; fragments = 2 }

abbrev pub A-refused : Returned
A-refused = record { told = replicate 9 8 ⇒ replicate 9 8; name = replicate 64 8 ⇒ replicate 64 8; answer = 6 }

-- A, within a payload of 3 bytes and 2 fragments: 3 delivered, 2 in the store, at place 0, of 3 bytes; nobody emptied; sequence 7; its name
abbrev pub wide : Limits
wide = record { payload = 3; fragments = 2 }

abbrev pub A_returns : Returned
A_returns = record {
  told = replicate 9 8 ⇒ 3 ∷ 2 ∷ 0 ∷ 3 ∷ 0 ∷ 0 ∷ 0 ∷ 7 ∷ 8 ∷ [];
  name = replicate 64 8 ⇒ 0x50 ∷ replicate 62 0 ++ 8 ∷ [];
  answer = 0;
}
