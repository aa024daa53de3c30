-- The premises of demand 3 can be met: worked scenes and feeds that meet them, by computation.
use Rattle.wire.proofs.Basics.{◌≡◌, refl, false, none, lit<}
use Rattle.wire.specs.Bytes.{be}
use Rattle.names.specs.Name.{good_name_lem}
use Rattle.datagram.specs.Name.{until_zero_lem, name_length_lem}
use Rattle.datagram.specs.Read.{read_small_lem, good_form, formed, read_fragment_lem, read_datagram_lem}
use Rattle.datagram.specs.Said.{said}
use Rattle.cutter.specs.Trip.{joined}
use Rattle.steps.specs.Memory.{key_of, since}
use Rattle.steps.specs.Slots.{busy, slot_at}
use Rattle.steps.specs.Answers.{emptied_key}
use Rattle.steps.specs.Worked.{A-of, B-of}
use Rattle.arrival.specs.Demand.{part, start, ◌▹◌, done, unfinished, completes, completed, call, after, deliveries, times_of, fed_whole, one_after_another, Promised, AllAnswered}
use Rattle.arrival_cases.specs.Worked.{small_of_lem, paper_scene, paper_feed, nine_scene, from_each, nine_feed, mast_scene, mast_feed, sixteen_scene, sixteen_feed, edge_scene, edge_feed, one_scene, stray_feed, single_scene, single_feed, bare_scene, bare_feed}
use Rattle.arrival.proofs.Tests.{tests, all_pass, tested}
use Rattle.arrival.proofs.Demand3.{demand3, each-answered}

pub paper-meets : tests paper_scene paper_feed ≡ all_pass
unfolding tests done unfinished completes completed since joined said read_datagram_lem read_small_lem read_fragment_lem formed good_form name_length_lem good_name_lem until_zero_lem be A-of B-of small_of_lem
paper-meets = refl

pub paper-promised : Promised paper_scene paper_feed
paper-promised = demand3 paper_scene paper_feed (tested paper_scene paper_feed paper-meets)

nine_meet : tests nine_scene nine_feed ≡ all_pass
unfolding tests done unfinished completes completed since joined said read_datagram_lem read_small_lem read_fragment_lem formed good_form name_length_lem good_name_lem until_zero_lem be A-of B-of from_each
nine_meet = refl

pub nine-promised : Promised nine_scene nine_feed
nine-promised = demand3 nine_scene nine_feed (tested nine_scene nine_feed nine_meet)

mast-meets : tests mast_scene mast_feed ≡ all_pass
unfolding tests done unfinished completes completed since joined said read_datagram_lem read_small_lem read_fragment_lem formed good_form name_length_lem good_name_lem until_zero_lem be A-of B-of small_of_lem from_each
mast-meets = refl

pub mast-promised : Promised mast_scene mast_feed
mast-promised = demand3 mast_scene mast_feed (tested mast_scene mast_feed mast-meets)

sixteen_meet : tests sixteen_scene sixteen_feed ≡ all_pass
unfolding tests done unfinished completes completed since joined said read_datagram_lem read_small_lem read_fragment_lem formed good_form name_length_lem good_name_lem until_zero_lem be small_of_lem from_each
sixteen_meet = refl

pub sixteen-promised : Promised sixteen_scene sixteen_feed
sixteen-promised = demand3 sixteen_scene sixteen_feed (tested sixteen_scene sixteen_feed sixteen_meet)

-- ---- at the edge of each phrase: a weaker statement would not cover these

edge-meets : tests edge_scene edge_feed ≡ all_pass
unfolding tests done unfinished completes completed since joined said read_datagram_lem read_small_lem read_fragment_lem formed good_form name_length_lem good_name_lem until_zero_lem be small_of_lem from_each
edge-meets = refl

-- 31 others of its sender were delivered since, and it comes again
pub edge-promised : Promised edge_scene edge_feed
edge-promised = demand3 edge_scene edge_feed (tested edge_scene edge_feed edge-meets)

strays_meet : tests one_scene stray_feed ≡ all_pass
unfolding tests done unfinished completes completed since joined said read_datagram_lem read_small_lem read_fragment_lem formed good_form name_length_lem good_name_lem until_zero_lem be A-of B-of
strays_meet = refl

-- strays of each number, 1 to 7
pub strays-promised : Promised one_scene stray_feed
strays-promised = demand3 one_scene stray_feed (tested one_scene stray_feed strays_meet)

-- each refused by its own
pub strays-answered : AllAnswered one_scene stray_feed
strays-answered = each-answered one_scene stray_feed (tested one_scene stray_feed strays_meet)

pub single-meets : tests single_scene single_feed ≡ all_pass
unfolding tests done unfinished completes completed since joined said read_datagram_lem read_small_lem read_fragment_lem formed good_form name_length_lem good_name_lem until_zero_lem be
single-meets = refl

-- in one fragment, and of no bytes
pub single-promised : Promised single_scene single_feed
single-promised = demand3 single_scene single_feed (tested single_scene single_feed single-meets)

bare-meets : tests bare_scene bare_feed ≡ all_pass
unfolding tests done unfinished completes completed since joined said read_datagram_lem read_small_lem read_fragment_lem formed good_form name_length_lem good_name_lem until_zero_lem be small_of_lem
bare-meets = refl

-- with an empty store
pub bare-promised : Promised bare_scene bare_feed
bare-promised = demand3 bare_scene bare_feed (tested bare_scene bare_feed bare-meets)

-- the last slot, which was open, is closed too
pub last-slot-closed : busy (slot_at (after nine_scene nine_feed).machine.slots 7) ≡ false
last-slot-closed = nine-promised.none_open_lem 7 (lit< tt)

-- ---- what else is promised of them

-- the tile is delivered once, though its B came again
pub paper-once : times_of (key_of 0 7) (deliveries paper_scene paper_feed) ≡ 1
paper-once = paper-promised.once 0 (lit< tt)

-- the memory of keys is as if the small message and then the tile had been fed whole
pub paper-memory : (after paper_scene paper_feed).machine.memory ≡ (after paper_scene (start ▹ part 1 0 ▹ part 0 0 ▹ part 0 1)).machine.memory
unfolding one_after_another fed_whole completed completes done
paper-memory = paper-promised.same_memory

-- the ninth message, which begins with seven open, empties no key
pub nine_spares : emptied_key (call nine_scene (after nine_scene (from_each start 1 0 8 ▹ part 0 0)) (part 8 1)).emptied ≡ none
unfolding from_each
nine_spares = nine-promised.none-emptied.0.0.0.0.0.0.0.0.1
