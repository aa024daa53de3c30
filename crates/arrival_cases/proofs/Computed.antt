-- The statement of demand 3 held to worked feeds, by computation and without the theorem: what it promises of the paper's B, A, B is so,
-- and its premises shut out the feeds that break it.
use Rattle.wire.proofs.Basics.{◌∙◌, ◌≡◌, ap, refl, ℕ, ◌≤◌, ◌<◌, [], ◌∷◌, lit<, arith}
use mathlib.Core.List.{zip_with}
use Rattle.wire.specs.Bytes.{be}
use Rattle.wire.specs.Overlay.{overlay}
use Rattle.names.specs.Name.{good_name_lem}
use Rattle.datagram.specs.Name.{until_zero_lem, name_length_lem}
use Rattle.datagram.specs.Read.{read_small_lem, good_form, formed, read_fragment_lem, read_datagram_lem}
use Rattle.datagram.specs.Said.{Said, said}
use Rattle.steps.specs.Held.{none_held, is_held, hold}
use Rattle.steps.specs.Memory.{among, empty_memory, is_remembered_lem, remember, place_for_lem, with_key, memory_ok, since}
use Rattle.steps.specs.Slots.{oldest, open_count_lem, lower, release, seat, opening, filled}
use Rattle.steps.specs.Receive.{opened, stay, same_fragment_lem, agrees, step3, decide, step5, act, receive, sound, step}
use Rattle.steps.specs.Answers.{refused_by, kept, repeat, delivered}
use Rattle.steps.specs.Runs.{fresh, run, all_heard}
use Rattle.steps.specs.Worked.{A-of, B-of, only, ABC}
use Rattle.arrival.specs.Demand.{Distinct, SentCut, AtCompletion, NeverOverEight, NeverTooLate, arrivals, after, delivery, done, unfinished, completes, completed}
use Rattle.arrival_cases.specs.Worked.{small_of_lem, from_each, in_two, paper_scene, paper_feed, twin_scene, nine_scene, crowded_feed, many_scene, many_feed}
use Rattle.arrival.proofs.Pieces.{fragment_said}

pub paper-at_completion : AtCompletion paper_scene paper_feed
unfolding delivery after run done completes step sound receive decide act stay step3 step5 same_fragment_lem agrees seat oldest release lower opening open_count_lem filled opened empty_memory is_remembered_lem
    remember place_for_lem with_key memory_ok among is_held hold none_held said read_datagram_lem read_small_lem read_fragment_lem formed good_form name_length_lem good_name_lem until_zero_lem be overlay A-of B-of small_of_lem
paper-at_completion = (((((tt, refl), refl), refl), refl), refl)

-- the answers themselves: kept, refused for form, a small message, A completes, B came before; and no key is emptied
pub paper-heard : all_heard (fresh paper_scene.store paper_scene.ledger) (arrivals paper_scene paper_feed) ≡ only kept ∷ only (refused_by 1) ∷ only (delivered (0x41 ∷ [])) ∷ only ABC ∷ only repeat ∷ []
unfolding zip_with run step sound receive decide act stay step3 step5 same_fragment_lem agrees seat oldest release lower opening open_count_lem filled opened empty_memory is_remembered_lem remember place_for_lem with_key
    memory_ok among is_held hold none_held said read_datagram_lem read_small_lem read_fragment_lem formed good_form name_length_lem good_name_lem until_zero_lem be overlay A-of B-of small_of_lem
paper-heard = refl

-- two messages of one key
pub twins-shut-out : Distinct twin_scene → ⊥
twins-shut-out p =
    let z : ◌≡◌ {A = ℕ} 0 1 = p 0 1 (lit< tt) (lit< tt) refl in
    omega arith

-- three bytes do not go into slots of two
pub large-shut-out : SentCut 2 (in_two 7) → ⊥
unfolding said read_datagram_lem read_fragment_lem formed good_form name_length_lem good_name_lem until_zero_lem be A-of
large-shut-out s =
    let three : 3 ≡ s.lawful.cut.size = ap (λ (r : Said). (fragment_said r).size) (s.lawful.cut.good 0 s.lawful.cut.at_least_one) ∙ s.lawful.cut.sizes 0 s.lawful.cut.at_least_one in
    let most : s.lawful.cut.size ≤ 2 = s.no-larger in
    omega arith

-- nine begun before one is finished: at the ninth arrival of 18
pub crowd-shut-out : NeverOverEight nine_scene crowded_feed → ⊥
unfolding from_each unfinished done
crowd-shut-out p =
    let nine : 9 ≤ 8 = p.0.0.0.0.0.0.0.0.0.1 in
    omega arith

-- the first of 33 again: 32 others of its sender have been delivered since
pub late-shut-out : NeverTooLate many_scene many_feed → ⊥
unfolding from_each done completes completed since
late-shut-out p =
    let late : 32 < 32 = p.1 refl in
    omega arith
