-- The worked logs are logs of their messages, from their bytes; both promises, that with losses and L12's are applied to them. Assumes nothing.
use Rattle.wire.proofs.Basics.{◌∙◌, sym, ◌≡◌, ap, refl, subst, ℕ, suc, zero, List, [], ◌∷◌, inr, some, none, eqb, lit<, lit≤, arith}
use Rattle.wire.specs.Choice.{pick}
use Rattle.wire.specs.Bytes.{be}
use Rattle.wire.specs.Sum.{sum}
use Rattle.wire.specs.Overlay.{overlay}
use Rattle.varint.specs.Seven.{groups_in}
use Rattle.names.specs.Name.{good_name_lem}
use Rattle.datagram.specs.Name.{until_zero_lem, name_length_lem}
use Rattle.datagram.specs.Read.{read_small_lem, good_form, formed, read_fragment_lem, read_datagram_lem}
use Rattle.datagram.specs.Said.{said}
use Rattle.datagram.specs.Read.{Refused}
use Rattle.cutter.specs.Trip.{joined}
use Rattle.steps.specs.Held.{none_held, is_held, hold}
use Rattle.steps.specs.Memory.{since, among, empty_memory, is_remembered_lem, remember, place_for_lem, with_key, memory_ok}
use Rattle.steps.specs.Slots.{oldest, open_count_lem, lower, release, seat, opening, filled}
use Rattle.steps.specs.Receive.{opened, stay, same_fragment_lem, agrees, step3, decide, step5, act, receive, sound, step}
use Rattle.steps.specs.Runs.{from, run}
use Rattle.steps.specs.Reach.{opens, opens_slot}
use Rattle.steps.specs.Answers.{Reply, refused_by, kept, repeat, delivered}
use Rattle.arrival.specs.Demand.{message, slot_bytes, done, unfinished, completes, completed, Supposed}
use Rattle.arrival.specs.Strangers as strangers
use Rattle.arrival.proofs.Tests.{tests, all_pass, tested}
use Rattle.lmcp.specs.Run as walked
use Rattle.lmcp.specs.Value.{fault, number_of}
use Rattle.lmcp.specs.Read.{judged, read_value, read_count, typed, known, read_header, read_head}
use Rattle.lmcp.specs.Walk.{item, field, fields, object, root}
use Rattle.lmcp.specs.Message.{frame, read_message_lem}
use Rattle.lmcp.specs.Lists as lists
use Rattle.flight_log.specs.declared.reader.Limits.{Limits}
use Rattle.flight_log.specs.Editions.{edition1, edition2, limited, limit_in, head_in, limits_of, limits_in_lem}
use Rattle.flight_log.specs.Listed.{datagram_in, length_in, tick_in, entry_in, whole, list_by, entries_after, entries_in}
use Rattle.within_limits.specs.Within.{read_within_lem, step_within}
use Rattle.sorted_set.specs.Lists.{enter, rising}
use Rattle.count_rules.specs.Marks.{mark_length, mark_at, marks_in, pit_list_of, list_read, list_in}
use Rattle.count_rules.specs.Report.{report}
use Rattle.count_rules.specs.Run.{called, answers, how_many, payloads}
use Rattle.count_rules.specs.Count as counting
use Rattle.count_rules.specs.Count.{first_fault, Report, report_of, reported, answers_to, unless, count_entries, count_listed, count_log_lem}
use Rattle.count_rules.specs.Promise.{no_more, own, stray, Keeps, Admits, LogOf, shown_of, shown}
use Rattle.count_rules.proofs.Shows.{count_promise, shown_promise}
use Rattle.season.specs.Losses.{Arrives, came_whole}
use Rattle.count_laws.specs.Losses.{shown_from}
use Rattle.count_laws.specs.Every.{Delivers, let_through, PromisedIn}
use Rattle.count_laws.specs.Worked.{tile_five, tile_four, one_log, lost_log, front, back, whole4, two_log, whole5, front4, back4, too_large, one_scene, lost_feed, one_feed, lost_entries, one_entries, two_scene, two_feed, two_entries, room, both_shown, lost_shown, one_report}
use Rattle.count_laws.proofs.Losses.{loss_promise}
use Rattle.count_laws.proofs.Strangers.{strangers-delivered}

-- ---- demand 3's suppositions

one-meets : tests one_scene one_feed ≡ all_pass
unfolding tests done unfinished completes completed since joined said read_datagram_lem read_small_lem read_fragment_lem formed good_form name_length_lem good_name_lem until_zero_lem be
    tile_five tile_four front back whole4
one-meets = refl

two_meets : tests two_scene two_feed ≡ all_pass
unfolding tests done unfinished completes completed since joined said read_datagram_lem read_small_lem read_fragment_lem formed good_form name_length_lem good_name_lem until_zero_lem be
    tile_five tile_four whole5 front4 back4
two_meets = refl

one-supposed : Supposed one_scene one_feed
one-supposed = tested one_scene one_feed one-meets

two-supposed : Supposed two_scene two_feed
two-supposed = tested two_scene two_feed two_meets

-- the first two arrivals alone
lost_arrives : Arrives one_scene lost_feed
lost_arrives = record {
  distinct = one-supposed.distinct;
  sent = one-supposed.sent;
  ledger-fits = one-supposed.ledger-fits;
  mixture = one-supposed.mixture.0.0.0;
  never-over-eight = one-supposed.never-over-eight.0.0.0;
  few-senders = one-supposed.few-senders;
  never_too-late = one-supposed.never_too-late.0.0.0;
}

-- ---- the logs, from their bytes

one-reads : entries_in one_log ≡ whole one_entries
unfolding one_log front back whole4 entries_in entries_after head_in list_by entry_in groups_in tick_in length_in datagram_in
one-reads = refl

lost-reads : entries_in lost_log ≡ whole lost_entries
unfolding lost_log front back whole4 entries_in entries_after head_in list_by entry_in groups_in tick_in length_in datagram_in
lost-reads = refl

two-reads : entries_in two_log ≡ whole two_entries
unfolding two_log whole5 front4 back4 too_large entries_in entries_after head_in limit_in limited list_by entry_in groups_in tick_in length_in datagram_in
two-reads = refl

one-limits : limits_of edition1 ≡ limits_in_lem one_log
unfolding one_log head_in
one-limits = refl

lost-limits : limits_of edition1 ≡ limits_in_lem lost_log
unfolding lost_log head_in
lost-limits = refl

two-limits : limits_of (edition2 54) ≡ limits_in_lem two_log
unfolding two_log head_in limit_in limited groups_in
two-limits = refl

one-admits : Admits (limits_of edition1) one_scene
unfolding tile_five tile_four
one-admits zero b f = (lit≤ tt, lit≤ tt)
one-admits (suc zero) b f = (lit≤ tt, lit≤ tt)
one-admits (suc (suc i)) b f = absurd (let z : ⊥ = omega arith in z)

two-admits : Admits (limits_of (edition2 54)) two_scene
unfolding tile_five tile_four
two-admits zero b f = (lit≤ tt, lit≤ tt)
two-admits (suc zero) b f = (lit≤ tt, lit≤ tt)
two-admits (suc (suc i)) b f = absurd (let z : ⊥ = omega arith in z)

over_limit : read_within_lem (limits_of (edition2 54)) (slot_bytes two_scene) too_large ≡ Refused 6
unfolding too_large read_datagram_lem read_fragment_lem be
over_limit = refl

one-keeps : (l : Limits) → Keeps l one_scene one_feed one_entries
one-keeps l = own _ (own _ (own _ (own _ (own _ no_more))))

lost-keeps : (l : Limits) → Keeps l one_scene lost_feed lost_entries
lost-keeps l = own _ (own _ no_more)

two-keeps : Keeps (limits_of (edition2 54)) two_scene two_feed two_entries
two-keeps = own _ (stray _ 6 over_limit (own _ (own _ no_more)))

pub one-log : LogOf one_scene one_feed one_log
one-log = record {
  entries = one_entries;
  reads = one-reads;
  keeps = one-keeps (limits_in_lem one_log);
  admits = subst (λ (l : Limits). Admits l one_scene) one-limits one-admits;
}

pub lost-log : LogOf one_scene lost_feed lost_log
lost-log = record {
  entries = lost_entries;
  reads = lost-reads;
  keeps = lost-keeps (limits_in_lem lost_log);
  admits = subst (λ (l : Limits). Admits l one_scene) lost-limits one-admits;
}

pub two-log : LogOf two_scene two_feed two_log
two-log = record {
  entries = two_entries;
  reads = two-reads;
  keeps = subst (λ (l : Limits). Keeps l two_scene two_feed two_entries) two-limits two-keeps;
  admits = subst (λ (l : Limits). Admits l two_scene) two-limits two-admits;
}

-- ---- the promise at work: whatever the number lists, both show the same

pub both-count : (n m : ℕ) (r s : Report) → count_log_lem n one_scene.store one_scene.ledger one_log ≡ reported r → count_log_lem m two_scene.store two_scene.ledger two_log ≡ reported s
    → shown_of r ≡ shown_of s
both-count = count_promise one_scene one_feed one_log two_scene two_feed two_log one-supposed one-log two-supposed two-log refl

pub both-shown : (n : ℕ) → shown (count_log_lem n one_scene.store one_scene.ledger one_log) ≡ shown (count_log_lem n two_scene.store two_scene.ledger two_log)
unfolding one-log two-log
both-shown = shown_promise one_scene one_feed one_log two_scene two_feed two_log one-supposed one-log two-supposed two-log refl (lit≤ tt) (lit≤ tt)

-- ---- the one, computed

abbrev one_answers : List Reply
one_answers = kept ∷ delivered tile_four ∷ refused_by 1 ∷ delivered tile_five ∷ repeat ∷ []

one-answered : answers_to (limits_of edition1) one_scene.store one_scene.ledger one_entries ≡ one_answers
unfolding answers called step_within sound receive decide act stay step3 step5 same_fragment_lem agrees seat oldest release lower opening open_count_lem filled opened empty_memory
    is_remembered_lem remember place_for_lem with_key memory_ok among is_held hold none_held read_datagram_lem read_small_lem read_fragment_lem formed good_form name_length_lem good_name_lem until_zero_lem
    be overlay tile_five tile_four front back whole4
one-answered = refl

one-fits : first_fault room [] (payloads one_answers) ≡ 0
unfolding first_fault counting.fault enter rising
    tile_five tile_four mark_length mark_at marks_in pit_list_of list_read list_in be sum walked.prepend walked.and_then walked.after walked.repeat walked.whole
    fault number_of judged read_value read_count typed known read_header read_head item field fields object root frame read_message_lem lists.read_as lists.read_list
one-fits = refl

one-reported : report_of one_entries one_answers ≡ one_report
unfolding report_of how_many report enter rising
    tile_five tile_four mark_length mark_at marks_in pit_list_of list_read list_in be sum walked.prepend walked.and_then walked.after walked.repeat walked.whole
    fault number_of judged read_value read_count typed known read_header read_head item field fields object root frame read_message_lem lists.read_as lists.read_list
one-reported = refl

pub one-counted : count_log_lem room one_scene.store one_scene.ledger one_log ≡ reported one_report
unfolding count_log_lem count_entries
one-counted =
    (λ i. count_listed (sym one-limits i) room one_scene.store one_scene.ledger (one-reads i))
    ∙ (ap (λ (rs : List Reply). unless (first_fault room [] (payloads rs)) (report_of one_entries rs)) one-answered ∙ (λ i. unless (one-fits i) (one-reported i)))

-- so the other, with as long a number list, is counted too, and shows these lines
pub two-shown : shown (count_log_lem room two_scene.store two_scene.ledger two_log) ≡ some both_shown
two-shown = sym (both-shown room) ∙ ap shown one-counted

pub two-counted : (m : ℕ) (s : Report) → count_log_lem m two_scene.store two_scene.ledger two_log ≡ reported s → shown_of s ≡ both_shown
two-counted m s q = sym (both-count room m one_report s one-counted q)

-- ---- with a loss: the list that came whole

lost-computed : pick (eqb (first_fault room [] (came_whole one_scene lost_feed)) 0) (some (shown_from (came_whole one_scene lost_feed))) none ≡ some lost_shown
unfolding done first_fault counting.fault report enter rising
    tile_five tile_four mark_length mark_at marks_in pit_list_of list_read list_in be sum walked.prepend walked.and_then walked.after walked.repeat walked.whole
    fault number_of judged read_value read_count typed known read_header read_head item field fields object root frame read_message_lem lists.read_as lists.read_list
lost-computed = refl

pub lost-shown : shown (count_log_lem room one_scene.store one_scene.ledger lost_log) ≡ some lost_shown
unfolding lost-log
lost-shown = loss_promise one_scene lost_feed lost_log lost_arrives lost-log (lit≤ tt) room ∙ lost-computed

-- ---- L12 in the log: its fragmented message, whose second fragment comes first, and a small one between

one-through : let_through (limits_of edition1) 64 one_entries ≡ from 3 back ∷ from 3 whole4 ∷ from 3 front ∷ from 3 back ∷ []
unfolding read_datagram_lem read_small_lem read_fragment_lem formed good_form name_length_lem good_name_lem until_zero_lem be front back whole4
one-through = refl

one-promised : PromisedIn one_scene.store one_scene.ledger one_log (message one_scene 0)
unfolding strangers.no_foreign strangers.openings strangers.complete strangers.after opens_slot run step sound receive decide act stay step3 step5 same_fragment_lem agrees seat oldest release
    lower opening open_count_lem filled opened empty_memory is_remembered_lem remember place_for_lem with_key memory_ok among is_held hold none_held said read_datagram_lem read_small_lem read_fragment_lem formed good_form
    name_length_lem good_name_lem until_zero_lem be overlay tile_five tile_four front back whole4
one-promised = record {
  entries = one_entries;
  reads = one-reads;
  earlier = [];
  first = 1;
  later = from 3 whole4 ∷ from 3 front ∷ from 3 back ∷ [];
  stand = subst (λ (l : Limits). let_through l 64 one_entries ≡ from 3 back ∷ from 3 whole4 ∷ from 3 front ∷ from 3 back ∷ []) one-limits one-through;
  begins = record { opened-over = 512; reached = opens; lawful = (one-supposed.sent 0 (lit< tt)).lawful; its_own = lit< tt; not-open = refl; accepted = refl };
  completed =
      inr (record {
        between = from 3 whole4 ∷ [];
        last = from 3 front;
        rest = from 3 back ∷ [];
        stand = refl;
        supposed = record { no-foreign = refl; few-openings = lit< tt; not-forgotten = refl; missing = refl };
        completes = refl;
      });
}

pub one-delivers : Delivers one_scene.store one_scene.ledger one_log tile_five
one-delivers = strangers-delivered one_scene.store one_scene.ledger one_log (message one_scene 0) one-promised
