-- Worked cases beside the marked ones: what is answered, with the emptied key. Definitions only.
use Rattle.std.specs.Prelude.{Bool, List, [], ◌∷◌, ◌++◌, map, ℕ, zero, suc, replicate}
use Rattle.std.proofs.Math.Option.{none, some}
use Rattle.steps.specs.Limits.{ledger_length, slot_size_of}
use Rattle.steps.specs.Memory.{Key, key_of, is_remembered_lem, remember, remember_all, forget_keys}
use Rattle.steps.specs.Slots.{busy, slot_at}
use Rattle.steps.specs.Receive.{opened, step, forget}
use Rattle.steps.specs.Answers.{Reply, refused_by, kept, repeat, delivered}
use Rattle.steps.specs.Runs.{World, fresh, from, Heard, all_heard}

-- a fresh receiver with a slot size of 4
unfoldable pub in_fours : World
in_fours = fresh (replicate 32 9) (replicate ledger_length 7)

-- ---- datagrams of sequence q

-- fragment k of n of a payload of p bytes, from o
abbrev pub head_of : ℕ → ℕ → ℕ → ℕ → ℕ → List ℕ → List ℕ
head_of q p o k n rest = 0x4c ∷ 0x43 ∷ 0x30 ∷ 0x33 ∷ 0 ∷ 0 ∷ 0 ∷ q ∷ 0 ∷ 0 ∷ 0 ∷ p ∷ 0 ∷ 0 ∷ 0 ∷ o ∷ 0 ∷ k ∷ 0 ∷ n ∷ rest

-- the paper's A and B have sequence 7
unfoldable pub A-of : ℕ → List ℕ
A-of q = head_of q 3 0 0 2 (0x50 ∷ 0 ∷ 0x41 ∷ [])

unfoldable pub B-of : ℕ → List ℕ
B-of q = head_of q 3 1 1 2 (0x42 ∷ 0x43 ∷ [])

abbrev pub small_one : ℕ → List ℕ
small_one q = 0x4c ∷ 0x43 ∷ 0x30 ∷ 0x32 ∷ 0 ∷ 0 ∷ 0 ∷ q ∷ 0x50 ∷ 0 ∷ 0x41 ∷ []

-- B of each sequence below n, the highest first, then others
abbrev pub begun_below : ℕ → List (List ℕ) → List (List ℕ)
begun_below zero more = more
begun_below (suc n) more = begun_below n (B-of n ∷ more)

-- ---- what is answered to datagrams of sender 0

pub record Case : Type 0 where
  pub come : List (List ℕ)
  pub answered : List Heard

abbrev pub case : List (List ℕ) → List Heard → Case
case ds hs = record { come = ds; answered = hs }

unfoldable pub hears : Case → List Heard
hears c = all_heard in_fours (map (from 0) c.come)

abbrev pub only : Reply → Heard
only r = record { answer = r; emptied = none }

-- and the key of sender 0 with that sequence was emptied
abbrev pub emptying : ℕ → Reply → Heard
emptying q r = record { answer = r; emptied = some (key_of 0 q) }

abbrev pub ABC : Reply
ABC = delivered (0x41 ∷ 0x42 ∷ 0x43 ∷ [])

-- eight messages are begun, and then
abbrev pub eight : List (List ℕ) → List Heard → Case
eight ds hs = case (begun_below 8 ds) (replicate 8 (only kept) ++ hs)

-- of one message
abbrev pub of_one : List Case
of_one =
    -- a copy completes nothing
    case (B-of 7 ∷ B-of 7 ∷ A-of 7 ∷ []) (only kept ∷ only repeat ∷ only ABC ∷ [])
    -- two neighbours that leave a gap: 1 byte from 0, then 2 from 2
    ∷ case (head_of 7 4 0 0 2 (0x50 ∷ 0 ∷ 0x41 ∷ []) ∷ head_of 7 4 2 1 2 (0x42 ∷ 0x43 ∷ []) ∷ []) (only kept ∷ only (refused_by 8) ∷ [])
    -- two that overlap and are no neighbours: 2 bytes from 0, then the third from 1
    ∷ case (head_of 7 4 0 0 3 (0x50 ∷ 0 ∷ 0x41 ∷ 0x42 ∷ []) ∷ head_of 7 4 1 2 3 (0x42 ∷ 0x43 ∷ 0x44 ∷ []) ∷ []) (only kept ∷ only (refused_by 8) ∷ [])
    -- two that are no neighbours may leave no gap: 1 byte from 0, then the third from 1
    ∷ case (head_of 7 4 0 0 3 (0x50 ∷ 0 ∷ 0x41 ∷ []) ∷ head_of 7 4 1 2 3 (0x42 ∷ 0x43 ∷ 0x44 ∷ []) ∷ []) (only kept ∷ only kept ∷ [])
    -- the fragments of three, the last first
    ∷ case (head_of 7 4 3 2 3 (0x44 ∷ []) ∷ head_of 7 4 0 0 3 (0x50 ∷ 0 ∷ 0x41 ∷ []) ∷ head_of 7 4 1 1 3 (0x42 ∷ 0x43 ∷ []) ∷ [])
    (only kept ∷ only kept ∷ only (delivered (0x41 ∷ 0x42 ∷ 0x43 ∷ 0x44 ∷ [])) ∷ [])
    -- another n, another P
    ∷ case (A-of 7 ∷ head_of 7 3 1 1 3 (0x42 ∷ 0x43 ∷ []) ∷ []) (only kept ∷ only (refused_by 8) ∷ [])
    ∷ case (A-of 7 ∷ head_of 7 2 1 1 2 (0x42 ∷ []) ∷ []) (only kept ∷ only (refused_by 8) ∷ [])
    -- a copy with other data, with another name, of another length, and from another offset (with the very bytes that stand there)
    ∷ case (B-of 7 ∷ head_of 7 3 1 1 2 (0x42 ∷ 0x44 ∷ []) ∷ []) (only kept ∷ only (refused_by 8) ∷ [])
    ∷ case (A-of 7 ∷ head_of 7 3 0 0 2 (0x51 ∷ 0 ∷ 0x41 ∷ []) ∷ []) (only kept ∷ only (refused_by 8) ∷ [])
    ∷ case (head_of 7 4 1 1 3 (0x42 ∷ 0x43 ∷ []) ∷ head_of 7 4 1 1 3 (0x42 ∷ []) ∷ []) (only kept ∷ only (refused_by 8) ∷ [])
    ∷ case (head_of 7 4 1 1 3 (0x42 ∷ 0x43 ∷ []) ∷ head_of 7 4 2 1 3 (0x43 ∷ 9 ∷ []) ∷ []) (only kept ∷ only (refused_by 8) ∷ [])
    -- a small message whose key is open; small twice
    ∷ case (B-of 7 ∷ small_one 7 ∷ []) (only kept ∷ only (refused_by 8) ∷ [])
    ∷ case (small_one 7 ∷ small_one 7 ∷ []) (only (delivered (0x41 ∷ [])) ∷ only repeat ∷ [])
    -- an empty payload
    ∷ case (head_of 7 0 0 0 1 (0x50 ∷ 0 ∷ []) ∷ []) (only (delivered []) ∷ [])
    ∷ []

-- of nine messages and more
abbrev pub of_many : List Case
of_many =
    -- a ninth message empties the oldest; of one fragment, it is delivered besides
    eight (B-of 8 ∷ []) (emptying 0 kept ∷ [])
    ∷ eight (head_of 8 1 0 0 1 (0x50 ∷ 0 ∷ 0x41 ∷ []) ∷ []) (emptying 0 (delivered (0x41 ∷ [])) ∷ [])
    -- the second is finished, a ninth takes its slot, and each that follows empties the one that was opened longest ago, the ninth in its turn
    ∷ eight (A-of 1 ∷ B-of 8 ∷ B-of 9 ∷ B-of 10 ∷ B-of 11 ∷ B-of 12 ∷ B-of 13 ∷ B-of 14 ∷ B-of 15 ∷ B-of 16 ∷ [])
    (only ABC ∷ only kept ∷ emptying 0 kept ∷ emptying 2 kept ∷ emptying 3 kept ∷ emptying 4 kept ∷ emptying 5 kept ∷ emptying 6 kept
    ∷ emptying 7 kept ∷ emptying 8 kept ∷ [])
    -- an emptied message is sent again whole: it is delivered
    ∷ eight (B-of 8 ∷ B-of 0 ∷ A-of 0 ∷ []) (emptying 0 kept ∷ emptying 1 kept ∷ only ABC ∷ [])
    -- a datagram that is refused empties nothing: the oldest is still there
    ∷ eight (head_of 8 5 0 0 1 (0x50 ∷ 0 ∷ 0x41 ∷ []) ∷ A-of 0 ∷ []) (only (refused_by 6) ∷ only ABC ∷ [])
    ∷ []

-- ---- slot sizes; what is remembered after deliveries, the latest first, and of a sender that is forgotten

-- the slot sizes of stores of 7, 8, 8,388,607, 8,388,608 and 8,388,616 bytes
abbrev pub slot_sizes : List ℕ
slot_sizes = map slot_size_of (7 ∷ 8 ∷ 8_388_607 ∷ 8_388_608 ∷ 8_388_616 ∷ [])

-- the keys of sender 0 with sequences below n, then other deliveries before them
abbrev pub keys_below : ℕ → List Key → List Key
keys_below zero before = before
keys_below (suc n) before = key_of 0 n ∷ keys_below n before

-- a key of each of the senders below n
abbrev pub each_below : ℕ → List Key
each_below zero = []
each_below (suc n) = key_of n 7 ∷ each_below n

-- after 33 deliveries of a sender the first is not remembered any more; the second and the last are
unfoldable pub past_memory : List Bool
past_memory = map (is_remembered_lem (remember_all (keys_below 33 []))) (key_of 0 0 ∷ key_of 0 1 ∷ key_of 0 32 ∷ [])

-- a tile's key is remembered after 200 deliveries of another sender; a key of its sequence is not found under the other
unfoldable pub beside_mast : List Bool
beside_mast = map (is_remembered_lem (remember_all (keys_below 200 (key_of 9 250 ∷ [])))) (key_of 9 250 ∷ key_of 0 250 ∷ [])

-- 16 senders have spoken, and the first again: the 17th drops the second, whose latest delivery lies furthest back
unfoldable pub seventeenth : List Bool
seventeenth = map (is_remembered_lem (remember_all (key_of 16 7 ∷ key_of 0 8 ∷ each_below 16))) (key_of 0 7 ∷ key_of 1 7 ∷ key_of 2 7 ∷ key_of 16 7 ∷ [])

-- a sender is forgotten, another is not
unfoldable pub forgotten_keys : List Bool
forgotten_keys = map (is_remembered_lem (forget_keys (remember_all (key_of 1 5 ∷ key_of 2 6 ∷ key_of 1 7 ∷ [])) 1)) (key_of 1 5 ∷ key_of 2 6 ∷ key_of 1 7 ∷ [])

-- of 16 senders one is forgotten: its place is free, and a 17th drops nobody
unfoldable pub place_freed : List Bool
place_freed = map (is_remembered_lem (remember (forget_keys (remember_all (each_below 16)) 3) (key_of 16 7))) (key_of 0 7 ∷ key_of 3 7 ∷ key_of 16 7 ∷ [])

-- slot 0 is open for sender 0: is it still, once a sender is forgotten?
unfoldable pub open_after : ℕ → Bool
open_after sender =
    busy (slot_at (forget (step (opened 32) (replicate 32 9) (replicate ledger_length 7) 0 (B-of 7)).machine sender).machine.slots 0)

abbrev pub memory_told : List (List Bool)
memory_told = past_memory ∷ beside_mast ∷ seventeenth ∷ forgotten_keys ∷ place_freed ∷ (open_after 0 ∷ open_after 1 ∷ []) ∷ []
