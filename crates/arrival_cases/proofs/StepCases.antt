-- The step list's worked cases of many messages, computed in one statement; slot sizes, and what is remembered and forgotten, in two more.
use Rattle.wire.proofs.Basics.{◌∙◌, ◌≡◌, refl, [], ◌∷◌, map, true, false}
use mathlib.Core.List.{zip_with}
use Rattle.wire.specs.Bytes.{be}
use Rattle.wire.specs.Overlay.{overlay}
use Rattle.names.specs.Name.{good_name_lem}
use Rattle.datagram.specs.Name.{until_zero_lem, name_length_lem}
use Rattle.datagram.specs.Read.{read_small_lem, good_form, formed, read_fragment_lem, read_datagram_lem}
use Rattle.datagram.specs.Said.{said}
use Rattle.steps.specs.Held.{none_held, is_held, hold}
use Rattle.steps.specs.Memory.{among, empty_memory, is_remembered_lem, remember, remember_all, place_for_lem, with_key, forget_keys, memory_ok}
use Rattle.steps.specs.Slots.{oldest, open_count_lem, lower, release, release_of, seat, opening, filled}
use Rattle.steps.specs.Receive.{opened, stay, same_fragment_lem, agrees, step3, decide, step5, act, receive, sound, step, forget}
use Rattle.steps.specs.Worked.{in_fours, A-of, B-of, Case, hears, of_many, slot_sizes, past_memory, beside_mast, seventeenth, forgotten_keys, place_freed, open_after, memory_told}
use Rattle.steps.proofs.RunComputed.{run_at}
use Rattle.steps.proofs.Answered.{quickly, hears-so}

computed : map quickly of_many ≡ map (λ (c : Case). c.answered) of_many
unfolding in_fours run_at zip_with A-of B-of step sound receive decide act stay step3 step5 same_fragment_lem agrees seat oldest release lower opening open_count_lem filled opened empty_memory is_remembered_lem remember
    place_for_lem with_key memory_ok among is_held hold none_held said read_datagram_lem read_small_lem read_fragment_lem formed good_form name_length_lem good_name_lem until_zero_lem be overlay
computed = refl

pub many-worked : map hears of_many ≡ map (λ (c : Case). c.answered) of_many
many-worked = hears-so of_many ∙ computed

pub slot-sizes : slot_sizes ≡ 0 ∷ 1 ∷ 1_048_575 ∷ 1_048_576 ∷ 1_048_576 ∷ []
slot-sizes = refl

pub memory-cases :
    memory_told
    ≡ (false ∷ true ∷ true ∷ [])
    ∷ (true ∷ false ∷ [])
    ∷ (true ∷ false ∷ true ∷ true ∷ [])
    ∷ (false ∷ true ∷ false ∷ [])
    ∷ (true ∷ false ∷ true ∷ [])
    ∷ (false ∷ true ∷ [])
    ∷ []
unfolding past_memory beside_mast seventeenth forgotten_keys place_freed open_after remember_all forget_keys forget release_of B-of step sound receive decide act stay
    step3 step5 same_fragment_lem agrees seat oldest release lower opening open_count_lem filled opened empty_memory is_remembered_lem remember place_for_lem with_key memory_ok among
    is_held hold none_held said read_datagram_lem read_small_lem read_fragment_lem formed good_form name_length_lem good_name_lem until_zero_lem be overlay
memory-cases = refl
