-- The premises of the promise with strangers about: met by worked feeds, and each needed. All by computation.
use Rattle.wire.proofs.Basics.{◌≡◌, ap, refl, ℕ, ◌≤◌, ◌<◌, List, [], ◌∷◌, map, true, false, Bool, not, some, length, get_or, lit<, ltb-true, arith}
use Rattle.wire.specs.Bytes.{be}
use Rattle.wire.specs.Overlay.{overlay}
use Rattle.names.specs.Name.{good_name_lem}
use Rattle.datagram.specs.Name.{until_zero_lem, name_length_lem}
use Rattle.datagram.specs.Read.{read_small_lem, good_form, formed, read_fragment_lem, read_datagram_lem}
use Rattle.datagram.specs.Said.{said}
use Rattle.steps.specs.Held.{none_held, is_held, hold}
use Rattle.steps.specs.Memory.{among, empty_memory, is_remembered_lem, remember, place_for_lem, with_key, memory_ok, forget_keys}
use Rattle.steps.specs.Slots.{oldest, open_count_lem, lower, release, release_of, seat, opening, filled}
use Rattle.steps.specs.Receive.{opened, stay, same_fragment_lem, agrees, step3, decide, step5, act, receive, sound, step, forget}
use Rattle.steps.specs.Runs.{World, world_of, Arrival, from, call, run, left_by}
use Rattle.steps.specs.Limits.{ledger_length, slot_size_of}
use Rattle.steps.specs.Answers.{emptied_key}
use Rattle.steps.specs.Reach.{Reached, opens, receives, forgets, is_open, is_accepted, opens_slot}
use Rattle.steps.specs.Worked.{in_fours, A-of, B-of, begun_below}
use Rattle.steps.proofs.Tables.{not-true}
use Rattle.steps.proofs.Reaches.{reached_in-order}
use Rattle.arrival.specs.Demand.{InFragments, key, parts}
use Rattle.arrival_cases.specs.Worked.{small_of_lem, A-gap, B-gap, paper_scene, paper_feed, single_scene, single_feed}
use Rattle.arrival.specs.Strangers.{Start, part, Begins, Feed, begun, after, no_foreign, openings, complete, Supposed, its, hands_over, Empties}
use Rattle.arrival_cases.specs.StrangersWorked.{ours, start_in, fresh_start, full_start, A, begins, seven_feed, flood_feed, single_start, bare_start, seven_more, eighth_more, again_start, delivered_once, forgotten_once, odd_start, Asked, asked, all_met, AllAsked, EachNeeded}
use Rattle.arrival.proofs.Tests.{tested}
use Rattle.arrival_cases.proofs.Works.{paper-meets, single-meets}
use Rattle.arrival.proofs.SendingAgain.{sent-again}
use Rattle.arrival.proofs.Strangers.{strangers}

-- calls of `step` lead to states that calls can reach
run-reached : {n : ℕ} (w : World) → Reached n w.machine → (xs : List Arrival) → Reached n (left_by w (run w xs)).machine
unfolding run
run-reached w r [] = r
run-reached w r (x ∷ xs) = run-reached (world_of (call w x)) (receives r w.store w.ledger x.sender x.datagram) xs

fresh-reached : Reached 32 in_fours.machine
unfolding in_fours
fresh-reached = opens

unfoldable ours-lawful : InFragments ours
ours-lawful = ((tested paper_scene paper_feed paper-meets).sent 0 (lit< tt)).lawful

ours-fits : ours-lawful.cut.size ≤ slot_size_of 32
unfolding ours-lawful
ours-fits = ((tested paper_scene paper_feed paper-meets).sent 0 (lit< tt)).no-larger

-- ---- what the definitions compute to

pub all_asked : AllAsked
unfolding asked no_foreign openings complete opens_slot after run in_fours step sound receive decide act stay step3 step5 same_fragment_lem agrees seat oldest
    release release_of lower opening open_count_lem filled opened empty_memory is_remembered_lem remember place_for_lem with_key memory_ok forget_keys forget among is_held hold
    none_held said read_datagram_lem read_small_lem read_fragment_lem formed good_form name_length_lem good_name_lem until_zero_lem be overlay A-of B-of small_of_lem A-gap B-gap begins
all_asked = record {
  seven = refl;
  flood = refl;
  once-forgotten = refl;
  seven-handed = refl;
  flood-handed = refl;
  forgotten-handed = refl;
  eight = refl;
  foreign = refl;
  forgotten = refl;
  remembered = refl;
  key-open = refl;
  gap = refl;
  odd = refl;
}

-- each premise is needed
pub each_needed : EachNeeded
unfolding after run in_fours step sound receive decide act stay step3 step5 same_fragment_lem agrees seat oldest release release_of lower opening open_count_lem
    filled opened empty_memory is_remembered_lem remember place_for_lem with_key memory_ok forget_keys forget among is_held hold none_held said read_datagram_lem read_small_lem
    read_fragment_lem formed good_form name_length_lem good_name_lem until_zero_lem be overlay A-of B-of small_of_lem A-gap B-gap begins
each_needed = record {
  few-openings = refl;
  no-foreign = refl;
  not-forgotten = refl;
  accepted = refl;
  not-open = refl;
  lawful = refl;
  reached = refl;
  untouched = refl;
  same_store = refl;
  same-ledger = refl;
}

-- no calls reach the odd state: with seven slots open there is no turn 100
pub odd_unreached : (n : ℕ) → Reached n odd_start.world.machine → ⊥
unfolding open_count_lem none_held
odd_unreached n r = let z : 100 < 7 = (reached_in-order n odd_start.world.machine r).turns-below 0 (lit< tt) refl in omega arith

-- ---- what the theorem gives of the feeds that meet its premises

supposed-by : (σ : Start) (f : Feed) (x : Arrival) → asked σ f x ≡ all_met → Supposed σ f
unfolding asked
supposed-by σ f x e = record {
  no-foreign = ap (λ (t : Asked). t.no-foreign) e;
  few-openings = ltb-true _ _ (ap (λ (t : Asked). t.few-openings) e);
  not-forgotten = ap (λ (t : Asked). t.not-forgotten) e;
  missing = not-true _ (ap (λ (t : Asked). t.missing) e);
}

module _ (w : World) (r : Reached 32 w.machine) (f : Feed) (x : Arrival) (e : asked (start_in w) f x ≡ all_met) where
  abbrev σ : Start
  σ = start_in w

  begins-so : Begins σ
  unfolding asked
  begins-so = record {
    opened-over = 32;
    reached = r;
    lawful = ours-lawful;
    its_own = lit< tt;
    not-open = not-true _ (ap (λ (t : Asked). t.not-open) e);
    accepted = ap (λ (t : Asked). t.accepted) e;
  }

  promised : hands_over (after σ f) x ≡ some (its ours)
  unfolding asked
  promised = (strangers σ begins-so).at_last f x (supposed-by σ f x e) (ap (λ (t : Asked). t.whole) e)

-- with seven openings by a stranger, from a state with all eight slots open; and in a flood
pub seven-promised : hands_over (after full_start seven_feed) A ≡ some (its ours)
seven-promised = promised full_start.world (run-reached in_fours fresh-reached (map (from 1) (begun_below 8 []))) seven_feed A all_asked.seven

pub flood-promised : hands_over (after fresh_start flood_feed) A ≡ some (its ours)
flood-promised = promised fresh_start.world (run-reached in_fours fresh-reached []) flood_feed A all_asked.flood

-- a state that calls reach with a forget among them: the key was delivered, and its sender forgotten
delivered-reached : Reached 32 delivered_once.machine
delivered-reached = run-reached in_fours fresh-reached (from 0 (B-of 7) ∷ from 0 (A-of 7) ∷ [])

pub forgotten-promised : hands_over (after (start_in forgotten_once) begun) A ≡ some (its ours)
forgotten-promised = promised forgotten_once (forgets delivered-reached 0) begun A all_asked.once-forgotten

-- ---- a message in one fragment

-- its key is not open, it is accepted, and none is missing
abbrev edge : Start → List Bool
edge σ = not (is_open σ.world.machine (key σ.message)) ∷ is_accepted (call σ.world (part σ.message σ.first)).answer ∷ complete σ begun ∷ []

nth : (l m : List Bool) → l ≡ m → (i : ℕ) → get_or l i false ≡ get_or m i false
nth l m e i = ap (λ (x : List Bool). get_or x i false) e

at_once : (σ : Start) (n : ℕ) → Reached n σ.world.machine → InFragments σ.message → σ.first < parts σ.message → edge σ ≡ true ∷ true ∷ true ∷ []
    → hands_over σ.world (part σ.message σ.first) ≡ some (its σ.message)
at_once σ n r law b e = (strangers σ (record {
  opened-over = n;
  reached = r;
  lawful = law;
  its_own = b;
  not-open = not-true _ (nth _ _ e 0);
  accepted = nth _ _ e 1;
})).at_once (nth _ _ e 2)

-- at the edge of a phrase: a message in one fragment, with all eight slots open; and one of no bytes, over an empty store

single-lawful : InFragments single_start.message
single-lawful = ((tested single_scene single_feed single-meets).sent 0 (lit< tt)).lawful

bare-lawful : InFragments bare_start.message
bare-lawful = ((tested single_scene single_feed single-meets).sent 1 (lit< tt)).lawful

-- neither is open, each is accepted and whole at once
edges : (edge single_start ≡ true ∷ true ∷ true ∷ []) × (edge bare_start ≡ true ∷ true ∷ true ∷ [])
unfolding asked no_foreign openings complete opens_slot after run in_fours step sound receive decide act stay step3 step5 same_fragment_lem agrees seat oldest
    release release_of lower opening open_count_lem filled opened empty_memory is_remembered_lem remember place_for_lem with_key memory_ok forget_keys forget among is_held hold
    none_held said read_datagram_lem read_small_lem read_fragment_lem formed good_form name_length_lem good_name_lem until_zero_lem be overlay A-of B-of small_of_lem A-gap B-gap begins
edges = (refl, refl)

pub single-promised : hands_over single_start.world (part single_start.message 0) ≡ some (its single_start.message)
single-promised = at_once single_start 32 (run-reached in_fours fresh-reached (map (from 1) (begun_below 8 []))) single-lawful (lit< tt) edges.0

pub bare-promised : hands_over bare_start.world (part bare_start.message 0) ≡ some (its bare_start.message)
bare-promised = at_once bare_start 0 opens bare-lawful (lit< tt) edges.1

-- ---- an emptied message that is sent again

pub record Again : Type 0 where
  pub emptied : emptied_key (call seven_more eighth_more).emptied ≡ some (key ours)
  pub store-fits : length seven_more.store ≡ 32
  pub ledger-fits : length seven_more.ledger ≡ ledger_length
  pub asked-again : asked again_start begun A ≡ all_met

again : Again
unfolding asked no_foreign openings complete opens_slot after run in_fours step sound receive decide act stay step3 step5 same_fragment_lem agrees seat oldest
    release release_of lower opening open_count_lem filled opened empty_memory is_remembered_lem remember place_for_lem with_key memory_ok forget_keys forget among is_held hold
    none_held said read_datagram_lem read_small_lem read_fragment_lem formed good_form name_length_lem good_name_lem until_zero_lem be overlay A-of B-of small_of_lem A-gap B-gap begins
again = record { emptied = refl; store-fits = refl; ledger-fits = refl; asked-again = refl }

again_empties : Empties seven_more eighth_more ours
again_empties = record {
  opened-over = 32;
  reached = run-reached in_fours fresh-reached (from 0 (B-of 7) ∷ map (from 1) (begun_below 7 []));
  store-fits = again.store-fits;
  ledger-fits = again.ledger-fits;
  lawful = ours-lawful;
  no-larger = ours-fits;
  emptied = again.emptied;
}

-- it is delivered at its A, with its own bytes
pub again-promised : hands_over (after again_start begun) A ≡ some (its ours)
unfolding asked
again-promised = (sent-again seven_more eighth_more ours again_empties 1 (lit< tt)).at_last begun A (supposed-by again_start begun A again.asked-again) (ap (λ (t : Asked). t.whole) again.asked-again)
