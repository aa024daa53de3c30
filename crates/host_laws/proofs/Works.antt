-- The worked calls meet the contracts of the C calls, from the numbers, and demand 3 for the C calls is applied to them. Assumes nothing.
use Rattle.wire.proofs.Basics.{sym, ◌≡◌, refl, ℕ, [], ◌∷◌, true, some, replicate, lit<, lit≤, arith}
use mathlib.Core.Option.{some-ne-none}
use Rattle.wire.specs.Bytes.{be}
use Rattle.wire.specs.Overlay.{overlay}
use Rattle.names.specs.Name.{good_name_lem}
use Rattle.datagram.specs.Name.{until_zero_lem, name_length_lem}
use Rattle.datagram.specs.Read.{read_small_lem, good_form, formed, read_fragment_lem, read_datagram_lem}
use Rattle.datagram.specs.Said.{said}
use Rattle.cutter.specs.Trip.{joined}
use Rattle.steps.specs.declared.PayloadAt.TheVariants.{InStore}
use Rattle.steps.specs.declared.Answer.TheVariants as given
use Rattle.refusals.specs.declared.Refusal.TheVariants.{PayloadTooLarge}
use Rattle.steps.specs.Receive.{Refused, Kept, Delivered}
use Rattle.steps.specs.declared.Emptied.TheVariants.{Nobody}
use Rattle.steps.specs.Held.{none_held, is_held, hold}
use Rattle.steps.specs.Memory.{since, empty_memory, is_remembered_lem, remember, place_for_lem, with_key, forget_keys, memory_ok}
use Rattle.steps.specs.Slots.{open_count_lem, lower, release, release_of, seat, opening, filled, no_name_lem, padded}
use Rattle.steps.specs.Receive.{opened, stay, agrees, step3, decide, step5, act, receive, sound, step, forget}
use Rattle.steps.specs.Worked.{A-of, B-of}
use Rattle.receiver_state.specs.View.{slots_of}
use Rattle.memory.specs.Words.{memory_in}
use Rattle.receiver.specs.Calls.{received, forgotten}
use Rattle.std.proofs.Common.{Ok}
use Rattle.within_limits.specs.Within.{step_within, received_within}
use Rattle.arrival.specs.ArrivalCalls.{LetThrough}
use Rattle.arrival.specs.Demand.{part, arrival, done, unfinished, completes, completed, Supposed, own}
use Rattle.arrival.specs.Strangers.{begun, ◌▹◌, comes, forgets, no_foreign, openings, complete, its}
use Rattle.arrival.specs.Strangers as strange
use Rattle.arrival.specs.StrangersRuns.{start_of}
use Rattle.arrival.proofs.Tests.{tests, all_pass, tested}
use Rattle.host_state.specs.Calls.{OpenTold, ForgetTold}
use Rattle.host_receiver.proofs.Telling.{short-told, heard-told}
use Rattle.host_laws.specs.HostRuns.{HostCalls, opens, calls, turns_away, handed_over, HostPromised}
use Rattle.host_laws.specs.Told.{hands_told}
use Rattle.host_laws.specs.HostStrangers.{HostBegins, by-open}
use Rattle.host_laws.specs.HostStrangers as host
use Rattle.host_laws.specs.Calls.{HostReceives, HostReceivesWithin, freely, within, no_room, refused}
use Rattle.host_laws.specs.Worked.{abc, abc_scene, abc_feed, A, any_words, any_names, no_names, open_words, open_lent, with_b, with_all, B_returns, A-lacks, narrow, A-refused, wide, A_returns}
use Rattle.host_laws.proofs.HostDemand3.{host-demand3}
use Rattle.host_laws.proofs.HostStrangers.{host-strangers}

meets : tests abc_scene abc_feed ≡ all_pass
unfolding tests done unfinished completes completed since joined said read_datagram_lem read_small_lem read_fragment_lem formed good_form name_length_lem good_name_lem until_zero_lem be A-of B-of
meets = refl

supposed : Supposed abc_scene abc_feed
supposed = tested abc_scene abc_feed meets

-- ---- each call, from its numbers

opened-told : OpenTold any_words any_names 32 0 open_words no_names
unfolding opened slots_of memory_in empty_memory none_held
opened-told = record {
  call = Ok tt;
  opens = record { gave = refl; machine = refl; words = refl; bytes = refl; still = λ k e. absurd (some-ne-none k (sym e)) };
  gave = refl;
}

-- an answer that is no refusal
kept-not : (k : ℕ) → Kept ≡ Refused k → ⊥
kept-not k e = let z : ◌≡◌ {A = ℕ} 0 1 = cc in omega arith

delivered-not : (k : ℕ) → Delivered (InStore 0) 3 ≡ Refused k → ⊥
delivered-not k e = let z : ◌≡◌ {A = ℕ} 0 1 = cc in omega arith

B-call : HostReceives open_lent (arrival abc_scene (part 0 1)) B_returns with_b
unfolding received step sound receive decide act step5 seat opening open_count_lem filled is_remembered_lem memory_ok is_held hold none_held said read_datagram_lem read_fragment_lem formed good_form
    be overlay slots_of memory_in B-of
B-call = heard-told _ _ _ B_returns.told B_returns.name (record { answer = given.Kept; emptied = Nobody; name = no_name_lem }) 0 with_b refl
    (record {
      leaves = record { answer = refl; emptied = refl; name = refl; machine = refl; store = refl; ledger = refl };
      tells = refl;
      words = refl;
      bytes = refl;
      still = λ k e. absurd (kept-not k e);
    })
    (record { gave = refl; numbers = refl; bytes = refl })

A-first : HostReceives with_b A A-lacks with_b
A-first = short-told _ _ _ (replicate 7 8) (replicate 64 8) 13 refl refl

A-second : HostReceivesWithin narrow with_b A A-refused with_b
unfolding received_within step_within sound receive decide act stay memory_ok read_datagram_lem read_fragment_lem be slots_of memory_in A-of
A-second = heard-told _ _ _ A-refused.told A-refused.name (record { answer = given.Refused PayloadTooLarge; emptied = Nobody; name = no_name_lem }) 6 with_b refl
    (record {
      leaves = record { answer = refl; emptied = refl; name = refl; machine = refl; store = refl; ledger = refl };
      tells = refl;
      words = refl;
      bytes = refl;
      still = λ k e. refl;
    })
    (record { gave = refl; numbers = refl; bytes = refl })

A-through : LetThrough 3 2 with_b A
unfolding said read_datagram_lem read_fragment_lem formed good_form name_length_lem good_name_lem until_zero_lem be A-of
A-through = refl

A-call : HostReceivesWithin wide with_b A A_returns with_all
unfolding received_within step_within sound receive decide act step3 step5 agrees release lower filled is_remembered_lem remember place_for_lem with_key memory_ok is_held hold none_held
    read_datagram_lem read_fragment_lem formed good_form name_length_lem good_name_lem until_zero_lem be overlay slots_of memory_in A-of
A-call = heard-told _ _ _ A_returns.told A_returns.name (record { answer = given.Delivered (InStore 0) 3; emptied = Nobody; name = padded (0x50 ∷ []) }) 0 with_all refl
    (record {
      leaves = record { answer = refl; emptied = refl; name = refl; machine = refl; store = refl; ledger = refl };
      tells = refl;
      words = refl;
      bytes = refl;
      still = λ k e. absurd (delivered-not k e);
    })
    (record { gave = refl; numbers = refl; bytes = refl })

-- ---- the run, and what is promised of it

pub abc-calls : HostCalls abc_scene abc_feed with_all
abc-calls =
    calls (turns_away (turns_away (calls (opens any_words any_names open_words no_names opened-told) (part 0 1) B_returns with_b (freely refl B-call))
    with_b (no_room A A-lacks refl A-first))
    with_b (refused narrow A A-refused (lit≤ tt) A-second))
    (part 0 0) A_returns with_all (within refl wide A-through A-call)

pub abc-promised : HostPromised abc_scene abc_feed with_all abc-calls
abc-promised = host-demand3 abc_scene abc_feed supposed with_all abc-calls

-- so the numbers tell the message's own key, name and bytes, as a host that reads them finds
pub abc-told : handed_over abc-calls ≡ own abc_scene 0 ∷ []
unfolding abc-calls until_zero_lem
abc-told = refl

-- ---- with strangers about: the same calls, and sender 9 is forgotten between them

nine-forgotten : ForgetTold with_b.state with_b.names 9 0 with_b.state with_b.names
unfolding forgotten forget memory_ok forget_keys release_of slots_of memory_in
nine-forgotten = record {
  call = Ok tt;
  forgets = record { gave = refl; machine = refl; words = refl; bytes = refl; still = λ k e. absurd (some-ne-none k (sym e)) };
  gave = refl;
}

abc-begins : HostBegins abc open_lent 1 B_returns with_b
unfolding slots_of
abc-begins = record {
  opened-over = 32;
  led = by-open any_words any_names open_words no_names opened-told;
  lawful = (supposed.sent 0 (lit< tt)).lawful;
  its_own = lit< tt;
  not-open = refl;
  taken = freely refl B-call;
  accepted = refl;
}

abc-strangers : strange.Supposed (start_of abc open_lent 1) (begun ▹ forgets 9)
unfolding no_foreign openings complete A-of B-of
abc-strangers = record { no-foreign = refl; few-openings = lit< tt; not-forgotten = refl; missing = refl }

abc-complete : complete (start_of abc open_lent 1) (begun ▹ forgets 9 ▹ comes A) ≡ true
unfolding complete A-of B-of
abc-complete = refl

pub abc-last : hands_told A A_returns with_all.store ≡ some (its abc)
abc-last = (host-strangers abc open_lent 1 B_returns with_b abc-begins).at_last (begun ▹ forgets 9) with_b
    (host.drops (host.turns_away host.begins with_b (refused narrow A A-refused (lit≤ tt) A-second)) 9 0 with_b.state with_b.names nine-forgotten)
    abc-strangers A A_returns with_all (within refl wide A-through A-call) abc-complete
