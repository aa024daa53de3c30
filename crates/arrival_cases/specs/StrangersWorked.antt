-- Worked feeds for the promise with strangers about: some that meet its premises, and for each premise one without it. Definitions only.
use Rattle.std.specs.Prelude.{◌≡◌, Bool, true, false, not, List, [], ◌∷◌, ◌++◌, map, ℕ, zero, suc, ◌+◌, ltb, replicate}
use Rattle.std.proofs.Math.Option.{none, some}
use Rattle.steps.specs.Limits.{slot_count, ledger_length}
use Rattle.steps.specs.Held.{none_held}
use Rattle.steps.specs.Memory.{key_of, empty_memory}
use Rattle.steps.specs.Slots.{Slot, no_slot, no_name_lem}
use Rattle.steps.specs.Receive.{forget}
use Rattle.steps.specs.Runs.{World, lending, fresh, Arrival, from, call, run, left_by}
use Rattle.steps.specs.Reach.{is_open, is_accepted}
use Rattle.steps.specs.Worked.{in_fours, head_of, A-of, B-of, begun_below}
use Rattle.arrival.specs.Demand.{Message, key}
use Rattle.arrival_cases.specs.Worked.{small_of_lem, A-gap, B-gap, in_two, in_single}
use Rattle.arrival.specs.Strangers.{Start, part, comes, forgets, Feed, begun, ◌▹◌, after, no_foreign, openings, complete, not_forgotten, its, hands_over, next_after}

-- ---- starts: the message of A and B, sender 0, sequence 7, its B first, in a receiver with slots of 4 bytes

abbrev pub ours : Message
ours = in_two 7

abbrev pub start_in : World → Start
start_in w = record { message = ours; world = w; first = 1 }

-- after these arrivals at a fresh receiver
abbrev pub start_after : List Arrival → Start
start_after xs = start_in (left_by in_fours (run in_fours xs))

abbrev pub fresh_start : Start
fresh_start = start_after []

-- with all eight slots open for sender 1
abbrev pub full_start : Start
full_start = start_after (map (from 1) (begun_below 8 []))

-- the last missing fragment
abbrev pub A : Arrival
A = part ours 0

-- ---- feeds that meet the premises

-- sender 1 begins n messages, of sequences from 20 up
unfoldable pub begins : Feed → ℕ → Feed
begins f zero = f
begins f (suc n) = begins f n ▹ comes (from 1 (B-of (20 + n)))

-- seven openings by a stranger, which empty every slot but ours
abbrev pub seven_feed : Feed
seven_feed = begins begun 7

-- A flood: an empty datagram, our own B again, and with our key a small message, another P, other data, another n, all refused; a stranger's message is begun,
-- finished and begun again; that sender is forgotten, and begins four more.
abbrev pub flood_feed : Feed
flood_feed =
    begins (begun ▹ comes (from 5 []) ▹ comes (part ours 1) ▹ comes (from 0 (small_of_lem 7 0x58)) ▹ comes (from 0 (head_of 7 4 2 1 2 (0x42 ∷ 0x43 ∷ [])))
    ▹ comes (from 0 (head_of 7 3 1 1 2 (0x58 ∷ 0x58 ∷ []))) ▹ comes (from 0 (head_of 7 3 1 1 3 (0x42 ∷ 0x43 ∷ []))) ▹ comes (part ours 1)
    ▹ comes (from 1 (B-of 7)) ▹ comes (from 1 (A-of 7)) ▹ comes (from 1 (A-of 7)) ▹ comes (from 1 (B-of 8)) ▹ forgets 1 ▹ comes (from 1 (B-of 7))) 4
    ▹ forgets 1

-- ---- at the edge of a phrase

-- a message in one fragment, with all eight slots open for sender 1; and one of no bytes, over an empty store
abbrev pub single_start : Start
single_start = record { message = in_single 5 (0x41 ∷ []); world = full_start.world; first = 0 }

abbrev pub bare_start : Start
bare_start = record { message = in_single 6 []; world = fresh [] (replicate ledger_length 7); first = 0 }

-- ---- an emptied message that is sent again: its B comes, then sender 1 begins eight messages, and the last empties it

abbrev pub seven_more : World
seven_more = left_by in_fours (run in_fours (from 0 (B-of 7) ∷ map (from 1) (begun_below 7 [])))

abbrev pub eighth_more : Arrival
eighth_more = from 1 (B-of 9)

-- and then its B again
abbrev pub again_start : Start
again_start = next_after seven_more eighth_more ours 1

-- ---- a message that was delivered, and then its sender forgotten, is sent again: its B begins it

abbrev pub delivered_once : World
delivered_once = left_by in_fours (run in_fours (from 0 (B-of 7) ∷ from 0 (A-of 7) ∷ []))

abbrev pub forgotten_once : World
forgotten_once = lending (forget delivered_once.machine 0).machine delivered_once.store delivered_once.ledger

-- ---- feeds that break the promise, each for want of one premise

abbrev pub eight_feed : Feed
eight_feed = begins begun 8

-- a foreign fragment 0 with our key is accepted
abbrev pub foreign_a : Arrival
foreign_a = from 0 (head_of 7 3 0 0 2 (0x51 ∷ 0 ∷ 0x58 ∷ []))

abbrev pub foreign_feed : Feed
foreign_feed = begun ▹ comes foreign_a

abbrev pub forgotten_feed : Feed
forgotten_feed = begun ▹ forgets 0

-- a small message of our key has been delivered: the key is remembered
abbrev pub remembered_start : Start
remembered_start = start_after (from 0 (small_of_lem 7 0x58) ∷ [])

-- our key is open for the foreign fragment 0
abbrev pub open_start : Start
open_start = start_after (foreign_a ∷ [])

-- fragments that leave a gap
abbrev pub gap_start : Start
gap_start = record {
  message = record { sender = 0; sequence = 7; name = 0x50 ∷ []; payload = 0x41 ∷ 0x42 ∷ 0x43 ∷ []; fragmented = true; datagrams = A-gap ∷ B-gap ∷ [] };
  world = in_fours;
  first = 1;
}

-- a state that no calls reach: seven slots open, each with turn 100
abbrev pub odd_slot : Slot
odd_slot = record { key = key_of 1 0; size = 1; count = 2; turn = 100; name = no_name_lem; held = none_held }

abbrev pub odd_start : Start
odd_start = record {
  message = ours;
  world = lending (record { store_length = 32; slot_size_lem = 4; slots = replicate 7 odd_slot ++ no_slot ∷ []; memory = empty_memory }) (replicate 32 9) (replicate ledger_length 7);
  first = 1;
}

abbrev pub odd_feed : Feed
odd_feed = begins begun 1

-- ---- what is asked of a start and a feed, one test for each premise, and that x is the last missing

pub record Asked : Type 0 where
  pub not-open : Bool
  pub accepted : Bool
  pub no-foreign : Bool
  pub few-openings : Bool
  pub not-forgotten : Bool
  pub missing : Bool
  pub whole : Bool

unfoldable pub asked : Start → Feed → Arrival → Asked
asked σ f x = record {
  not-open = not (is_open σ.world.machine (key σ.message));
  accepted = is_accepted (call σ.world (part σ.message σ.first)).answer;
  no-foreign = no_foreign σ f;
  few-openings = ltb (openings σ f) slot_count;
  not-forgotten = not_forgotten σ f;
  missing = not (complete σ f);
  whole = complete σ (f ▹ comes x);
}

-- what the seven give, in that order
abbrev pub gives : Bool → Bool → Bool → Bool → Bool → Bool → Bool → Asked
gives a b c d e f g = record { not-open = a; accepted = b; no-foreign = c; few-openings = d; not-forgotten = e; missing = f; whole = g }

abbrev pub all_met : Asked
all_met = gives true true true true true true true

-- the first three meet the premises, and A is answered with the message; of each other feed all tests but one pass (what is lawful, and what is reached, is no test)
pub record AllAsked : Type 0 where
  pub seven : asked full_start seven_feed A ≡ all_met
  pub flood : asked fresh_start flood_feed A ≡ all_met
  pub once-forgotten : asked (start_in forgotten_once) begun A ≡ all_met
  pub seven-handed : hands_over (after full_start seven_feed) A ≡ some (its ours)
  pub flood-handed : hands_over (after fresh_start flood_feed) A ≡ some (its ours)
  pub forgotten-handed : hands_over (after (start_in forgotten_once) begun) A ≡ some (its ours)
  pub eight : asked fresh_start eight_feed A ≡ gives true true true false true true true
  pub foreign : asked fresh_start foreign_feed A ≡ gives true true false true true true true
  pub forgotten : asked fresh_start forgotten_feed A ≡ gives true true true true false true true
  pub remembered : asked remembered_start begun A ≡ gives true false true true true true true
  pub key-open : asked open_start begun A ≡ gives false true true true true true true
  pub gap : asked gap_start begun (part gap_start.message 0) ≡ all_met
  pub odd : asked odd_start odd_feed A ≡ all_met

-- what is handed over to A after the feed, when somebody changes the store or the ledger before it
abbrev pub tampered : (List ℕ → List ℕ) → (List ℕ → List ℕ) → World
tampered s l = let w : World = after fresh_start begun in lending w.machine (s w.store) (l w.ledger)

-- ---- each premise is needed: of none of these the message is delivered with its own bytes

pub record EachNeeded : Type 0 where
  pub few-openings : hands_over (after fresh_start eight_feed) A ≡ none
  pub no-foreign : hands_over (after fresh_start foreign_feed) A ≡ none
  pub not-forgotten : hands_over (after fresh_start forgotten_feed) A ≡ none
  pub accepted : hands_over (after remembered_start begun) A ≡ none
  pub not-open : hands_over (after open_start begun) A ≡ none
  pub lawful : hands_over (after gap_start begun) (part gap_start.message 0) ≡ none
  pub reached : hands_over (after odd_start odd_feed) A ≡ none
  -- untouched it is delivered
  pub untouched : hands_over (tampered (λ s. s) (λ l. l)) A ≡ some (its ours)
  pub same_store : hands_over (tampered (λ s. replicate 32 0) (λ l. l)) A ≡ some (record { key = key_of 0 7; name = 0x50 ∷ []; bytes = 0x41 ∷ 0 ∷ 0 ∷ [] })
  pub same-ledger : hands_over (tampered (λ s. s) (λ l. replicate ledger_length 7)) A ≡ none
