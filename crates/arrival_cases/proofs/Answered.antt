-- The answers themselves, computed: place, length and name of what is delivered, what store and ledger then hold, and who is remembered.
use Rattle.wire.proofs.Basics.{◌∙◌, ◌≡◌, refl, ℕ, List, [], ◌∷◌, map, true, false, length-replicate}
use Rattle.wire.specs.Bytes.{be}
use Rattle.wire.specs.Overlay.{overlay}
use Rattle.names.specs.Name.{good_name_lem}
use Rattle.datagram.specs.Name.{until_zero_lem, name_length_lem}
use Rattle.datagram.specs.Read.{read_small_lem, good_form, formed, read_fragment_lem, read_datagram_lem}
use Rattle.datagram.specs.Said.{said}
use Rattle.steps.specs.Limits.{ledger_length}
use Rattle.steps.specs.Held.{none_held, is_held, hold}
use Rattle.steps.specs.Memory.{among, empty_memory, is_remembered_lem, remember, remember_all, forget_keys, place_for_lem, with_key, memory_ok}
use Rattle.steps.specs.Slots.{oldest, open_count_lem, lower, release, seat, opening, filled}
use Rattle.steps.specs.Receive.{opened, stay, same_fragment_lem, agrees, step3, decide, step5, act, receive, sound, step}
use Rattle.steps.specs.Runs.{Arrival, from, run}
use Rattle.steps.specs.Worked.{in_fours, A-of, B-of}
use Rattle.steps.proofs.RunComputed.{run_at, run-at}
use Rattle.arrival_cases.specs.Shown.{Shown, shown, with_slots_of, Scene, shows, scenes, stored_two, ledger_two, order_kept, first_places}

abbrev shows_quickly : Scene → List Shown
shows_quickly σ = map shown (run_at ledger_length (with_slots_of σ.slots) (map (from 0) σ.come))

shows-so : (l : List Scene) → map shows l ≡ map shows_quickly l
unfolding shows with_slots_of
shows-so [] = refl
shows-so (σ ∷ l) =
    let xs : List Arrival = map (from 0) σ.come in
    λ i. map shown (run-at ledger_length (with_slots_of σ.slots) (length-replicate {A = ℕ} ledger_length 1) xs i) ∷ shows-so l i

shown-so : map shows_quickly scenes ≡ map (λ (σ : Scene). σ.answered) scenes
unfolding with_slots_of run_at A-of B-of step sound receive decide act stay step3 step5 same_fragment_lem agrees seat oldest release lower opening open_count_lem filled empty_memory is_remembered_lem remember place_for_lem
    with_key memory_ok among is_held hold none_held said read_datagram_lem read_small_lem read_fragment_lem formed good_form name_length_lem good_name_lem until_zero_lem be overlay
shown-so = refl

-- place, length and name of what is delivered; the lowest free slot; of two slots to choose from the lower
pub worked-scenes : map shows scenes ≡ map (λ (σ : Scene). σ.answered) scenes
worked-scenes = shows-so scenes ∙ shown-so

-- B's two bytes stand one byte into the parts of slots 0 and 1, and its offset and length in their rows; the rest is as it was lent
pub stored-where : (stored_two ≡ 9 ∷ 0x42 ∷ 0x43 ∷ 9 ∷ 9 ∷ 0x42 ∷ 0x43 ∷ 9 ∷ 9 ∷ 9 ∷ 9 ∷ 9 ∷ []) × (ledger_two ≡ 1 ∷ 2 ∷ 1 ∷ 2 ∷ 7 ∷ 7 ∷ [])
unfolding stored_two ledger_two run in_fours B-of step sound receive decide act stay step3 step5 same_fragment_lem agrees seat oldest release lower opening open_count_lem filled opened empty_memory is_remembered_lem
    remember place_for_lem with_key memory_ok among is_held hold none_held said read_datagram_lem read_small_lem read_fragment_lem formed good_form name_length_lem good_name_lem until_zero_lem be overlay
stored-where = (refl, refl)

-- after forget the rest keep their order; of two places to choose from the first
pub remembered-where : (order_kept ≡ true ∷ false ∷ true ∷ true ∷ true ∷ []) × (first_places ≡ true ∷ false ∷ false ∷ true ∷ true ∷ true ∷ [])
unfolding order_kept first_places remember_all forget_keys empty_memory is_remembered_lem remember place_for_lem with_key
remembered-where = (refl, refl)
