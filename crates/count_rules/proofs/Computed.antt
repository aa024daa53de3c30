-- The worked payloads are read as written, the worked flight is counted as worked, and a log's limits bind by 5 and 6. Assumes nothing.
use Rattle.wire.proofs.Basics.{◌∙◌, ◌≡◌, ap, refl, ℕ, ◌-◌, List, [], ◌∷◌, length, arith}
use Rattle.wire.specs.Bytes.{be}
use Rattle.wire.specs.Sum.{sum}
use Rattle.varint.specs.Seven.{groups, groups_in}
use Rattle.wire.specs.Overlay.{overlay}
use Rattle.names.specs.Name.{good_name_lem}
use Rattle.datagram.specs.Name.{until_zero_lem, name_length_lem}
use Rattle.datagram.specs.Read.{read_small_lem, good_form, formed, read_fragment_lem, read_datagram_lem}
use Rattle.datagram.specs.Limits.{max_payload}
use Rattle.steps.specs.Held.{none_held, is_held, hold}
use Rattle.steps.specs.Memory.{among, empty_memory, is_remembered_lem, remember, place_for_lem, with_key, memory_ok}
use Rattle.steps.specs.Slots.{oldest, open_count_lem, lower, release, seat, opening, filled}
use Rattle.steps.specs.Receive.{opened, stay, same_fragment_lem, agrees, step3, decide, step5, act, receive, sound}
use Rattle.steps.specs.Answers.{Reply, refused_by, kept}
use Rattle.steps.specs.Worked.{A-of, B-of}
use Rattle.lmcp.specs.Run as run
use Rattle.lmcp.specs.Value.{fault, number_of}
use Rattle.lmcp.specs.Read.{judged, read_value, read_count, typed, known, read_header, read_head}
use Rattle.lmcp.specs.Walk.{item, field, fields, object, root}
use Rattle.lmcp.specs.Message.{frame, read_message_lem}
use Rattle.lmcp.specs.Lists as lists
use Rattle.flight_log.specs.Editions.{Edition, edition1, edition2, Lawful, limits_of}
use Rattle.flight_log.specs.Entries.{entry_bytes, body_of}
use Rattle.flight_log.specs.Listed.{datagram_in, length_in, tick_in, entry_in, whole, list_by}
use Rattle.within_limits.specs.Within.{step_within}
use Rattle.sorted_set.specs.Lists.{enter, rising}
use Rattle.count_rules.specs.Marks.{mark_length, mark_at, marks_in, pit_list_of, list_read, list_in}
use Rattle.count_rules.specs.Report.{report}
use Rattle.count_rules.specs.Run.{called, answers, how_many, payloads}
use Rattle.count_rules.specs.Count as faults
use Rattle.count_rules.specs.Count.{first_fault, report_of, reported, no_report, answers_to, unless, count_entries, count_log_lem}
use Rattle.count_rules.specs.Worked.{first, deep, second, third, fourth, ping, read, read_as, store, ledger, flight, flight_log, flight_answers, tight_answers, flight_report, tight_report, longest, many, many_log, many_report, many_tiles}
use Rattle.count_rules.proofs.Heads.{own-listed}

pub read-computed : read ≡ read_as
unfolding first deep second third fourth ping mark_length mark_at marks_in pit_list_of list_read list_in be sum run.prepend run.and_then run.after run.repeat run.whole fault number_of judged read_value
    read_count typed known read_header read_head item field fields object root frame read_message_lem lists.read_as lists.read_list
read-computed = refl

-- ---- a log of edition 1, or of edition 2 with the largest limit

abbrev pub Plain : Edition → Type 0
Plain edition1 = Unit {0}
Plain (edition2 limit) = limit ≡ max_payload

plain-lawful : (v : Edition) → Plain v → Lawful v
plain-lawful edition1 p = tt
plain-lawful (edition2 limit) p = omega arith

-- ---- the flight: its log is read, its entries are answered, its answers are reported

flight-read : list_by (length (body_of flight)) (body_of flight) ≡ whole flight
unfolding body_of entry_bytes groups list_by entry_in groups_in tick_in length_in datagram_in first deep second third fourth A-of B-of
flight-read = refl

old-answered : answers_to (limits_of edition1) store ledger flight ≡ flight_answers
unfolding answers called step_within sound receive decide act stay step3 step5 same_fragment_lem agrees seat oldest release lower opening open_count_lem filled opened empty_memory
    is_remembered_lem remember place_for_lem with_key memory_ok among is_held hold none_held read_datagram_lem read_small_lem read_fragment_lem formed good_form name_length_lem good_name_lem until_zero_lem
    be overlay A-of B-of first deep second third fourth
old-answered = refl

new-answered : answers_to (limits_of (edition2 max_payload)) store ledger flight ≡ flight_answers
unfolding answers called step_within sound receive decide act stay step3 step5 same_fragment_lem agrees seat oldest release lower opening open_count_lem filled opened empty_memory
    is_remembered_lem remember place_for_lem with_key memory_ok among is_held hold none_held read_datagram_lem read_small_lem read_fragment_lem formed good_form name_length_lem good_name_lem until_zero_lem
    be overlay A-of B-of first deep second third fourth
new-answered = refl

-- in either edition, with limits that are not below the slots'
flight-answered : (v : Edition) → Plain v → answers_to (limits_of v) store ledger flight ≡ flight_answers
flight-answered edition1 p = old-answered
flight-answered (edition2 limit) p = rw p new-answered

-- with as many numbers as its longest list has
flight-fits : first_fault longest [] (payloads flight_answers) ≡ 0
unfolding first_fault faults.fault enter rising
    first deep second third fourth mark_length mark_at marks_in pit_list_of list_read list_in be sum run.prepend run.and_then run.after run.repeat run.whole
    fault number_of judged read_value read_count typed known read_header read_head item field fields object root frame read_message_lem lists.read_as lists.read_list
flight-fits = refl

flight-reported : report_of flight flight_answers ≡ flight_report
unfolding report_of how_many report enter rising
    first deep second third fourth mark_length mark_at marks_in pit_list_of list_read list_in be sum run.prepend run.and_then run.after run.repeat run.whole
    fault number_of judged read_value read_count typed known read_header read_head item field fields object root frame read_message_lem lists.read_as lists.read_list
flight-reported = refl

flight-is : (v : Edition) → Lawful v → (room : ℕ) (rs : List Reply) → answers_to (limits_of v) store ledger flight ≡ rs
    → count_log_lem room store ledger (flight_log v) ≡ unless (first_fault room [] (payloads rs)) (report_of flight rs)
unfolding flight_log count_entries
flight-is v l room rs e = own-listed v l flight flight-read room store ledger ∙ ap (λ (x : List Reply). unless (first_fault room [] (payloads x)) (report_of flight x)) e

pub flight-counted : (v : Edition) → Plain v → count_log_lem longest store ledger (flight_log v) ≡ reported flight_report
flight-counted v p = flight-is v (plain-lawful v p) longest flight_answers (flight-answered v p) ∙ (λ i. unless (flight-fits i) (flight-reported i))

-- and with one number less not
flight-short : first_fault (longest - 1) [] (payloads flight_answers) ≡ 13
unfolding first_fault faults.fault enter rising
    first deep second third fourth mark_length mark_at marks_in pit_list_of list_read list_in be sum run.prepend run.and_then run.after run.repeat run.whole
    fault number_of judged read_value read_count typed known read_header read_head item field fields object root frame read_message_lem lists.read_as lists.read_list
flight-short = refl

pub flight-refused : (v : Edition) → Plain v → count_log_lem (longest - 1) store ledger (flight_log v) ≡ no_report 13
flight-refused v p = flight-is v (plain-lawful v p) (longest - 1) flight_answers (flight-answered v p) ∙ (λ i. unless (flight-short i) (report_of flight flight_answers))

-- ---- A LOG'S LIMITS BIND: P over an edition 2 log's own limit is refused by 6, small messages go through whatever their length

tight-answered : answers_to (limits_of (edition2 2)) store ledger flight ≡ tight_answers
unfolding answers called step_within sound receive decide act stay step3 step5 same_fragment_lem agrees seat oldest release lower opening open_count_lem filled opened empty_memory
    is_remembered_lem remember place_for_lem with_key memory_ok among is_held hold none_held read_datagram_lem read_small_lem read_fragment_lem formed good_form name_length_lem good_name_lem until_zero_lem
    be overlay A-of B-of first deep second third fourth
tight-answered = refl

tight-fits : first_fault longest [] (payloads tight_answers) ≡ 0
unfolding first_fault faults.fault enter rising
    first deep second third fourth mark_length mark_at marks_in pit_list_of list_read list_in be sum run.prepend run.and_then run.after run.repeat run.whole
    fault number_of judged read_value read_count typed known read_header read_head item field fields object root frame read_message_lem lists.read_as lists.read_list
tight-fits = refl

tight-reported : report_of flight tight_answers ≡ tight_report
unfolding report_of how_many report enter rising
    first deep second third fourth mark_length mark_at marks_in pit_list_of list_read list_in be sum run.prepend run.and_then run.after run.repeat run.whole
    fault number_of judged read_value read_count typed known read_header read_head item field fields object root frame read_message_lem lists.read_as lists.read_list
tight-reported = refl

pub tight-counted : count_log_lem longest store ledger (flight_log (edition2 2)) ≡ reported tight_report
tight-counted = flight-is (edition2 2) (omega arith) longest tight_answers tight-answered ∙ (λ i. unless (tight-fits i) (tight-reported i))

-- ---- n 257 is refused by 5 in an edition 1 log, and kept in one of edition 2, over the same slots

many_read : list_by (length (body_of (many ∷ []))) (body_of (many ∷ [])) ≡ whole (many ∷ [])
unfolding body_of entry_bytes groups list_by entry_in groups_in tick_in length_in datagram_in
many_read = refl

many-refused : answers_to (limits_of edition1) store ledger (many ∷ []) ≡ refused_by 5 ∷ []
unfolding answers called step_within sound receive decide act stay step3 step5 same_fragment_lem agrees seat oldest release lower opening open_count_lem filled opened empty_memory
    is_remembered_lem remember place_for_lem with_key memory_ok among is_held hold none_held read_datagram_lem read_small_lem read_fragment_lem formed good_form name_length_lem good_name_lem until_zero_lem
    be overlay
many-refused = refl

many-kept : answers_to (limits_of (edition2 max_payload)) store ledger (many ∷ []) ≡ kept ∷ []
unfolding answers called step_within sound receive decide act stay step3 step5 same_fragment_lem agrees seat oldest release lower opening open_count_lem filled opened empty_memory
    is_remembered_lem remember place_for_lem with_key memory_ok among is_held hold none_held read_datagram_lem read_small_lem read_fragment_lem formed good_form name_length_lem good_name_lem until_zero_lem
    be overlay
many-kept = refl

many_is : (v : Edition) → Lawful v → (rs : List Reply) → answers_to (limits_of v) store ledger (many ∷ []) ≡ rs
    → count_log_lem longest store ledger (many_log v) ≡ unless (first_fault longest [] (payloads rs)) (report_of (many ∷ []) rs)
unfolding many_log count_entries
many_is v l rs e =
    own-listed v l (many ∷ []) many_read longest store ledger ∙ ap (λ (x : List Reply). unless (first_fault longest [] (payloads x)) (report_of (many ∷ []) x)) e

pub many_old : count_log_lem longest store ledger (many_log edition1) ≡ reported (many_report 0 1)
unfolding first_fault report_of how_many report rising
many_old = many_is edition1 tt (refused_by 5 ∷ []) many-refused

pub many-new : count_log_lem longest store ledger (many_log (edition2 max_payload)) ≡ reported (many_report 1 0)
unfolding first_fault report_of how_many report rising
many-new = many_is (edition2 max_payload) (omega arith) (kept ∷ []) many-kept

-- ---- the 256th tile and the 257th; and by which number a log is refused may depend on the order of its payloads

pub tiles-enough : first_fault 100 (many_tiles 255) (third ∷ []) ≡ 0
unfolding first_fault faults.fault enter rising
    third mark_length mark_at marks_in pit_list_of list_read list_in be sum run.prepend run.and_then run.after run.repeat run.whole
    fault number_of judged read_value read_count typed known read_header read_head item field fields object root frame read_message_lem lists.read_as lists.read_list
tiles-enough = refl

pub too-long-first : first_fault (longest - 1) (many_tiles 256) (deep ∷ third ∷ []) ≡ 13
unfolding first_fault faults.fault enter rising
    deep third mark_length mark_at marks_in pit_list_of list_read list_in be sum run.prepend run.and_then run.after run.repeat run.whole
    fault number_of judged read_value read_count typed known read_header read_head item field fields object root frame read_message_lem lists.read_as lists.read_list
too-long-first = refl

pub tile-first : first_fault (longest - 1) (many_tiles 256) (third ∷ deep ∷ []) ≡ 60
unfolding first_fault faults.fault enter rising
    deep third mark_length mark_at marks_in pit_list_of list_read list_in be sum run.prepend run.and_then run.after run.repeat run.whole
    fault number_of judged read_value read_count typed known read_header read_head item field fields object root frame read_message_lem lists.read_as lists.read_list
tile-first = refl
