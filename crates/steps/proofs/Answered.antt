-- The worked cases of one message, computed; those of many are computed in `arrival_cases`.
use Rattle.wire.proofs.Basics.{◌∙◌, ◌≡◌, refl, ℕ, List, [], ◌∷◌, map, length-replicate}
use mathlib.Core.List.{zip_with}
use Rattle.wire.specs.Bytes.{be}
use Rattle.wire.specs.Overlay.{overlay}
use Rattle.names.specs.Name.{good_name_lem}
use Rattle.datagram.specs.Name.{until_zero_lem, name_length_lem}
use Rattle.datagram.specs.Read.{read_small_lem, good_form, formed, read_fragment_lem, read_datagram_lem}
use Rattle.datagram.specs.Said.{said}
use Rattle.steps.specs.Held.{none_held, is_held, hold}
use Rattle.steps.specs.Memory.{among, empty_memory, is_remembered_lem, remember, place_for_lem, with_key, memory_ok}
use Rattle.steps.specs.Slots.{oldest, open_count_lem, lower, release, seat, opening, filled}
use Rattle.steps.specs.Receive.{opened, stay, same_fragment_lem, agrees, step3, decide, step5, act, receive, sound, step}
use Rattle.steps.specs.Limits.{ledger_length}
use Rattle.steps.specs.Runs.{Arrival, from, Heard, heard}
use Rattle.steps.specs.Worked.{in_fours, A-of, B-of, Case, hears, of_one}
use Rattle.steps.proofs.RunComputed.{run_at, run-at}

abbrev pub quickly : Case → List Heard
quickly c = let xs : List Arrival = map (from 0) c.come in zip_with heard xs (run_at ledger_length in_fours xs)

pub hears-so : (cs : List Case) → map hears cs ≡ map quickly cs
unfolding hears in_fours
hears-so [] = refl
hears-so (c ∷ cs) =
    let xs : List Arrival = map (from 0) c.come in
    λ i. zip_with heard xs (run-at ledger_length in_fours (length-replicate {A = ℕ} ledger_length 7) xs i) ∷ hears-so cs i

computed : map quickly of_one ≡ map (λ (c : Case). c.answered) of_one
unfolding in_fours run_at zip_with A-of B-of step sound receive decide act stay step3 step5 same_fragment_lem agrees seat oldest release lower opening open_count_lem filled opened empty_memory is_remembered_lem remember
    place_for_lem with_key memory_ok among is_held hold none_held said read_datagram_lem read_small_lem read_fragment_lem formed good_form name_length_lem good_name_lem until_zero_lem be overlay
computed = refl

pub worked-cases : map hears of_one ≡ map (λ (c : Case). c.answered) of_one
worked-cases = hears-so of_one ∙ computed
