-- Two worked logs of the same messages, one of them with late copies, meet the suppositions and show the same lines. Assumes nothing.
use Rattle.wire.proofs.Basics.{◌∙◌, ◌≡◌, refl, ℕ, suc, zero, List, [], ◌∷◌, map, lit≤, arith}
use Rattle.wire.specs.Bytes.{be, bytes}
use Rattle.wire.specs.Sum.{sum}
use Rattle.datagram.specs.Limits.{max_payload}
use Rattle.datagram.specs.Read.{Refused}
use Rattle.names.specs.Name.{good_name_lem}
use Rattle.datagram.specs.Name.{until_zero_lem, name_length_lem}
use Rattle.datagram.specs.Read.{read_small_lem, good_form, formed, read_fragment_lem, read_datagram_lem}
use Rattle.datagram.specs.Said.{said}
use Rattle.cutter.specs.Cut.{count_of, small_bytes, head_bytes, piece_of, fragment_bytes, datagram_of}
use Rattle.cutter.specs.Trip.{joined}
use Rattle.steps.specs.Memory.{since}
use Rattle.steps.specs.Runs.{Arrival}
use Rattle.arrival.specs.Demand.{Supposed, slot_bytes, arrivals, done, unfinished, completes, completed}
use Rattle.arrival.proofs.Tests.{tests, all_pass, tested}
use Rattle.lmcp.specs.Run as run
use Rattle.lmcp.specs.Value.{fault, number_of}
use Rattle.lmcp.specs.Read.{judged, read_value, read_count, typed, known, read_header, read_head}
use Rattle.lmcp.specs.Walk.{item, field, fields, object, root}
use Rattle.lmcp.specs.Message.{frame, read_message_lem}
use Rattle.lmcp.specs.Lists as lists
use Rattle.flight_log.specs.declared.reader.Limits.{Limits}
use Rattle.flight_log.specs.Editions.{edition1, edition2, limits_of}
use Rattle.flight_log.specs.Entries.{entry_of}
use Rattle.within_limits.specs.Within.{read_within_lem}
use Rattle.sorted_set.specs.Lists.{enter, rising}
use Rattle.count_rules.specs.Marks.{mark_length, mark_at, marks_in, pit_list_of, list_read, list_in}
use Rattle.count_rules.specs.Report.{report}
use Rattle.count_rules.specs.Run.{lists_read}
use Rattle.count_rules.specs.Promise.{Recorded, no_more, own, stray, Keeps, Admits, payloads_of, delivered_by}
use Rattle.count_rules.specs.Worked.{first, second, third, ping, many, lines, whole_scene, whole_feed, mixed_scene, mixed_feed, entries_of}
use Rattle.count_rules.proofs.Admitting.{largest-admits}
use Rattle.count_rules.proofs.Counted.{counted}

whole_meets : tests whole_scene whole_feed ≡ all_pass
unfolding tests done unfinished completes completed since joined said read_datagram_lem read_small_lem read_fragment_lem formed good_form name_length_lem good_name_lem until_zero_lem be bytes
    count_of small_bytes head_bytes piece_of fragment_bytes datagram_of first second third ping
whole_meets = refl

mixed-meets : tests mixed_scene mixed_feed ≡ all_pass
unfolding tests done unfinished completes completed since joined said read_datagram_lem read_small_lem read_fragment_lem formed good_form name_length_lem good_name_lem until_zero_lem be bytes
    count_of small_bytes head_bytes piece_of fragment_bytes datagram_of first second third ping
mixed-meets = refl

lines-computed : report (lists_read (payloads_of whole_scene)) ≡ lines
unfolding report enter rising
    first second third ping mark_length mark_at marks_in pit_list_of list_read list_in be sum run.prepend run.and_then run.after run.repeat run.whole
    fault number_of judged read_value read_count typed known read_header read_head item field fields object root frame read_message_lem lists.read_as lists.read_list
lines-computed = refl

keeps : (l : Limits) (C : ℕ) (xs : List Arrival) → Recorded l C xs (map (λ x. entry_of x.sender 0 x.datagram) xs)
keeps l C [] = no_more
keeps l C (x ∷ xs) = own (entry_of x.sender 0 x.datagram) (keeps l C xs)

-- the one in an edition 1 log, with a stray among them that only its limits refuse
many_strays : read_within_lem (limits_of edition1) (slot_bytes whole_scene) many.datagram ≡ Refused 5
unfolding read_datagram_lem read_fragment_lem be
many_strays = refl

whole_admitted : Admits (limits_of edition1) whole_scene
unfolding count_of small_bytes head_bytes piece_of fragment_bytes datagram_of first second third ping
whole_admitted zero b f = (lit≤ tt, lit≤ tt)
whole_admitted (suc zero) b f = (lit≤ tt, lit≤ tt)
whole_admitted (suc (suc zero)) b f = (lit≤ tt, lit≤ tt)
whole_admitted (suc (suc (suc zero))) b f = (lit≤ tt, lit≤ tt)
whole_admitted (suc (suc (suc (suc i)))) b f = absurd (let z : ⊥ = omega arith in z)

pub whole-lines : report (lists_read (delivered_by (limits_of edition1) whole_scene (many ∷ entries_of whole_scene whole_feed))) ≡ lines
whole-lines =
    let k : Keeps (limits_of edition1) whole_scene whole_feed (many ∷ entries_of whole_scene whole_feed) =
    stray many 5 many_strays (keeps (limits_of edition1) (slot_bytes whole_scene) (arrivals whole_scene whole_feed)) in
    (counted (limits_of edition1) whole_scene whole_feed (tested whole_scene whole_feed whole_meets) whole_admitted (many ∷ entries_of whole_scene whole_feed) k).tile-lines
    ∙ lines-computed

-- the other in an edition 2 log
pub mixed-lines : report (lists_read (delivered_by (limits_of (edition2 max_payload)) mixed_scene (entries_of mixed_scene mixed_feed))) ≡ lines
mixed-lines =
    let l : Limits = limits_of (edition2 max_payload) in
    let s : Supposed mixed_scene mixed_feed = tested mixed_scene mixed_feed mixed-meets in
    (counted l mixed_scene mixed_feed s (largest-admits mixed_scene s.sent) (entries_of mixed_scene mixed_feed) (keeps l (slot_bytes mixed_scene) (arrivals mixed_scene mixed_feed))).tile-lines
    ∙ lines-computed
