-- The answers themselves, with place, length and name: which slot it is shows in the place, and in the ledger; and who is remembered after forget, and in a memory
-- not made by calls. Definitions only.
use Rattle.std.specs.Prelude.{Bool, List, [], ◌∷◌, ◌++◌, map, ℕ, zero, suc, take, replicate}
use Rattle.std.proofs.Math.Option.{Option, none, some}
use Rattle.steps.specs.Limits.{slot_count, senders_most, keys_each, ledger_length}
use Rattle.steps.specs.Held.{none_held, hold}
use Rattle.steps.specs.declared.Key.{Key}
use Rattle.steps.specs.declared.PayloadAt.{PayloadAt}
use Rattle.steps.specs.declared.PayloadAt.TheVariants.{InDatagram, InStore}
use Rattle.steps.specs.Receive.{Answer}
use Rattle.steps.specs.Receive.{Kept, Delivered}
use Rattle.steps.specs.Memory.{key_of, Place, empty_memory, is_remembered_lem, remember, remember_all, forget_keys}
use Rattle.steps.specs.Slots.{Slot, no_slot, no_name_lem, padded}
use Rattle.steps.specs.Receive.{After, offset_of, length_of}
use Rattle.steps.specs.Answers.{emptied_key}
use Rattle.steps.specs.Runs.{World, lending, from, run, left_by}
use Rattle.steps.specs.Worked.{in_fours, head_of, A-of, B-of, small_one, each_below}

pub record Shown : Type 0 where
  pub answer : Answer
  pub emptied : Option Key
  pub name : List ℕ

abbrev pub shown : After → Shown
shown a = record { answer = a.answer; emptied = emptied_key a.emptied; name = a.name }

-- with these slots of 4 bytes, nothing remembered, and every offset and length in the ledger 1: a state that calls need not make
unfoldable pub with_slots_of : List Slot → World
with_slots_of slots = lending (record { store_length = 32; slot_size_lem = 4; slots = slots; memory = empty_memory }) (replicate 32 9) (replicate ledger_length 1)

-- what is answered to datagrams of sender 0
pub record Scene : Type 0 where
  pub slots : List Slot
  pub come : List (List ℕ)
  pub answered : List Shown

abbrev pub scene : List Slot → List (List ℕ) → List Shown → Scene
scene slots ds hs = record { slots = slots; come = ds; answered = hs }

unfoldable pub shows : Scene → List Shown
shows σ = map shown (run (with_slots_of σ.slots) (map (from 0) σ.come))

abbrev pub keeps : Shown
keeps = record { answer = Kept; emptied = none; name = no_name_lem }

-- a payload of n bytes at p, with the name P
abbrev pub gives : PayloadAt → ℕ → Shown
gives p n = record { answer = Delivered p n; emptied = none; name = padded (0x50 ∷ []) }

-- a message of one byte, in one fragment
abbrev pub in_one_of : ℕ → List ℕ
in_one_of q = head_of q 1 0 0 1 (0x50 ∷ 0 ∷ 0x41 ∷ [])

-- as in a fresh receiver
abbrev pub none_open : List Slot
none_open = replicate slot_count no_slot

-- a slot of sender 0, open for sequence q, with B held, and that turn
abbrev pub half_of : ℕ → ℕ → Slot
half_of q turn = record { key = key_of 0 q; size = 3; count = 2; turn = turn; name = no_name_lem; held = hold none_held 1 }

abbrev pub scenes : List Scene
scenes =
    -- a small message: 8 bytes, the name and a zero byte come before it
    scene none_open (small_one 7 ∷ []) (gives (InDatagram 10) 1 ∷ [])
    -- in the first slot, and beside two that are open in the third
    ∷ scene none_open (B-of 7 ∷ A-of 7 ∷ []) (keeps ∷ gives (InStore 0) 3 ∷ [])
    ∷ scene none_open (B-of 0 ∷ B-of 1 ∷ B-of 7 ∷ A-of 7 ∷ []) (keeps ∷ keeps ∷ keeps ∷ gives (InStore 8) 3 ∷ [])
    -- slots 1, 0 and 3 up are free: the lowest is taken
    ∷ scene none_open (B-of 0 ∷ B-of 1 ∷ B-of 2 ∷ A-of 1 ∷ A-of 0 ∷ in_one_of 9 ∷ [])
    (keeps ∷ keeps ∷ keeps ∷ gives (InStore 4) 3 ∷ gives (InStore 0) 3 ∷ gives (InStore 0) 1 ∷ [])
    -- one key is open in slots 2 and 5: the lower counts
    ∷ scene (no_slot ∷ no_slot ∷ half_of 7 0 ∷ no_slot ∷ no_slot ∷ half_of 7 1 ∷ no_slot ∷ no_slot ∷ []) (A-of 7 ∷ []) (gives (InStore 8) 3 ∷ [])
    -- all eight are open, and slots 3 and 6 were opened longest ago: the lower is emptied
    ∷ scene (half_of 20 5 ∷ half_of 21 4 ∷ half_of 22 3 ∷ half_of 23 1 ∷ half_of 24 2 ∷ half_of 25 6 ∷ half_of 26 1 ∷ half_of 27 7 ∷ []) (in_one_of 9 ∷ [])
    (record { answer = Delivered (InStore 12) 1; emptied = some (key_of 0 23); name = padded (0x50 ∷ []) } ∷ [])
    ∷ []

-- what the store holds once B of two messages came, and the ledger's offsets and lengths of fragment 1 of slots 0, 1 and 2
abbrev pub after_two : World
after_two = left_by in_fours (run in_fours (map (from 0) (B-of 0 ∷ B-of 1 ∷ [])))

unfoldable pub stored_two : List ℕ
stored_two = take 12 after_two.store

unfoldable pub ledger_two : List ℕ
ledger_two =
    let l : List ℕ = after_two.ledger in
    offset_of l 0 1 ∷ length_of l 0 1 ∷ offset_of l 1 1 ∷ length_of l 1 1 ∷ offset_of l 2 1 ∷ length_of l 2 1 ∷ []

-- ---- who is remembered

-- 16 senders have spoken, and the first again; one is forgotten, and a 17th has its place: an 18th drops the second, since the rest have kept their order
unfoldable pub order_kept : List Bool
order_kept =
    map (is_remembered_lem (remember (remember (forget_keys (remember_all (key_of 0 8 ∷ each_below 16)) 3) (key_of 16 7)) (key_of 17 7)))
    (key_of 0 8 ∷ key_of 1 7 ∷ key_of 2 7 ∷ key_of 16 7 ∷ key_of 17 7 ∷ [])

-- a memory not made by calls: of two places of one sender the first counts; of 16 that lie equally far back the first goes for a 17th
abbrev pub odd_place : ℕ → ℕ → Place
odd_place sender q = record { sender = sender; used = 1; turn = 3; sequences = replicate keys_each q }

abbrev pub odd_below : ℕ → List Place
odd_below zero = []
odd_below (suc n) = odd_place n 7 ∷ odd_below n

unfoldable pub first_places : List Bool
first_places =
    map (is_remembered_lem (odd_place 5 7 ∷ odd_place 6 7 ∷ odd_place 5 8 ∷ [])) (key_of 5 7 ∷ key_of 5 8 ∷ [])
    ++ map (is_remembered_lem (remember (odd_below senders_most) (key_of 16 7))) (key_of 15 7 ∷ key_of 14 7 ∷ key_of 0 7 ∷ key_of 16 7 ∷ [])
