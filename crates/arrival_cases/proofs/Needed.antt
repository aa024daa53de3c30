-- Each premise of demand 3 is needed: a scene and a feed that pass every other test, and of which the promise does not hold. All by computation.
use Rattle.wire.proofs.Basics.{◌≡◌, refl, [], ◌∷◌, true, false, some, none, Option, lit<}
use mathlib.Core.Option.{none-ne-some, some-ne-none}
use Rattle.wire.specs.Bytes.{be}
use Rattle.wire.specs.Overlay.{overlay}
use Rattle.wire.proofs.Choices.{never}
use Rattle.names.specs.Name.{good_name_lem}
use Rattle.datagram.specs.Name.{until_zero_lem, name_length_lem}
use Rattle.datagram.specs.Read.{read_small_lem, good_form, formed, read_fragment_lem, read_datagram_lem}
use Rattle.datagram.specs.Said.{said}
use Rattle.cutter.specs.Trip.{joined}
use Rattle.steps.specs.Held.{none_held, is_held, hold}
use Rattle.steps.specs.Memory.{among, empty_memory, is_remembered_lem, remember, place_for_lem, with_key, memory_ok, forget_keys, since}
use Rattle.steps.specs.Slots.{oldest, open_count_lem, lower, release, release_of, seat, opening, filled}
use Rattle.steps.specs.Receive.{opened, stay, same_fragment_lem, agrees, step3, decide, step5, act, receive, sound, step, forget}
use Rattle.steps.specs.Runs.{run}
use Rattle.steps.specs.Worked.{A-of, B-of}
use Rattle.arrival.specs.Demand.{Delivery, after, delivery, done, unfinished, completes, completed}
use Rattle.arrival_cases.specs.Worked.{small_of_lem, A-gap, B-gap, from_each, EachNeeded, twin_scene, twin_feed, gap_scene, both_feed, large_scene, barred_scene, one_scene, stranger_feed, lacking_feed, nine_scene, crowded_feed, throng_scene, throng_feed, many_scene, many_feed}
use Rattle.arrival.proofs.Tests.{tests, giving}

not-handed : {d : Delivery} → ◌≡◌ {A = Option Delivery} none (some d) → ⊥
not-handed {d} e = none-ne-some d e

handed_too_much : {d : Delivery} → ◌≡◌ {A = Option Delivery} (some d) none → ⊥
handed_too_much {d} e = some-ne-none d e

-- every other premise is met
pub others_met :
    tests twin_scene twin_feed
    ∷ tests gap_scene both_feed
    ∷ tests large_scene both_feed
    ∷ tests barred_scene both_feed
    ∷ tests one_scene stranger_feed
    ∷ tests one_scene lacking_feed
    ∷ tests nine_scene crowded_feed
    ∷ tests throng_scene throng_feed
    ∷ tests many_scene many_feed
    ∷ []
    ≡ giving false true true true true true true true
    ∷ giving true false true true true true true true
    ∷ giving true false true true true true true true
    ∷ giving true true false true true true true true
    ∷ giving true true true false true true true true
    ∷ giving true true true true false true true true
    ∷ giving true true true true true false true true
    ∷ giving true true true true true true false true
    ∷ giving true true true true true true true false
    ∷ []
unfolding tests done unfinished completes completed since joined said read_datagram_lem read_small_lem read_fragment_lem formed good_form name_length_lem good_name_lem until_zero_lem be small_of_lem A-of B-of A-gap B-gap from_each
others_met = refl

-- and the promise is broken: most often the arrival that completes a message hands over nothing
pub each_needed : EachNeeded
unfolding delivery after run done completes step sound receive decide act stay step3 step5 same_fragment_lem agrees seat oldest release release_of lower opening open_count_lem filled opened empty_memory
    is_remembered_lem remember place_for_lem with_key memory_ok forget_keys forget among is_held hold none_held said read_datagram_lem read_small_lem read_fragment_lem formed good_form name_length_lem good_name_lem until_zero_lem be overlay
    small_of_lem A-of B-of A-gap B-gap from_each
each_needed = record {
  distinct = λ p. not-handed p.at_completion.1;
  lawfully-cut = λ p. not-handed p.at_completion.1;
  no-larger = λ p. not-handed p.at_completion.1;
  ledger-fits = λ p. not-handed p.at_completion.1;
  mixture = λ p. not-handed p.at_completion.1;
  each-comes = λ p. never refl (p.none_open_lem 0 (lit< tt));
  never-over-eight = λ p. not-handed p.at_completion.1;
  few-senders = λ p. handed_too_much p.at_completion.1;
  never_too-late = λ p. handed_too_much p.at_completion.1;
  untouched = refl;
  same_store = refl;
  same-ledger = refl;
  no_forget = refl;
}
