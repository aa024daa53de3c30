-- Worked: payloads of both versions, a flight and its report, the limits, and two logs of the same messages. Definitions only.
use Rattle.std.specs.Prelude.{true, false, List, [], ◌∷◌, ◌++◌, map, ℕ, ◌+◌, length, replicate}
use Rattle.wire.specs.Text.{ascii}
use Rattle.words.specs.Builds.{build}
use Rattle.steps.specs.Limits.{ledger_length}
use Rattle.steps.specs.Answers.{Reply, refused_by, kept, repeat, delivered}
use Rattle.steps.specs.Worked.{head_of, A-of, B-of}
use Rattle.arrival.specs.Demand.{Message, Scene, part, noise, Feed, start, ◌▹◌, arrivals}
use Rattle.arrival.specs.Ours.{cut_message}
use Rattle.flight_log.specs.Editions.{Edition}
use Rattle.flight_log.specs.Entries.{Entry, entry_of, log_of}
use Rattle.count_rules.specs.Marks.{PitList, list_in}
use Rattle.count_rules.specs.Report.{Line}
use Rattle.count_rules.specs.Count.{Report}

-- ---- the bytes of objects of a version

abbrev object : ℕ → ℕ → List ℕ → List ℕ
object v t fields = 1 ∷ ascii "PITSURV" ++ 0 ∷ 0 ∷ 0 ∷ 0 ∷ t ∷ 0 ∷ v ∷ fields

abbrev null : List ℕ
null = 0 ∷ []

abbrev place : ℕ → List ℕ
place v = object v 2 (0 ∷ 0 ∷ 0 ∷ 7 ∷ 255 ∷ 255 ∷ 255 ∷ 255 ∷ 0 ∷ 3 ∷ [])

-- with what stands at its end: in version 2 a depth
abbrev mark : ℕ → ℕ → ℕ → List ℕ → List ℕ
mark v pit sure rest = object v 4 (0 ∷ 0 ∷ 0 ∷ pit ∷ sure ∷ rest)

abbrev list1 : ℕ → ℕ → List ℕ → List ℕ
list1 tile n marks = object 1 5 (0 ∷ 0 ∷ 0 ∷ tile ∷ 0 ∷ n ∷ marks)

abbrev list2 : ℕ → ℕ → List ℕ → List ℕ
list2 tile n marks = object 2 5 (0 ∷ 0 ∷ 0 ∷ tile ∷ 0 ∷ 0 ∷ 0 ∷ n ∷ marks)

-- with a checksum that is not calculated
abbrev message : List ℕ → List ℕ
message root = ascii "LMCP" ++ 0 ∷ 0 ∷ 0 ∷ length root ∷ root ++ 0 ∷ 0 ∷ 0 ∷ 0 ∷ []

-- ---- payloads, and the lists that they are

-- tile 9: pit 1 sure, null, pit 2 not sure and with no place
unfoldable pub first : List ℕ
first = message (list1 9 3 (mark 1 1 1 (place 1) ++ null ++ mark 1 2 0 null))

-- the same in version 2, with depths
unfoldable pub deep : List ℕ
deep = message (list2 9 3 (mark 2 1 1 (place 2 ++ 0 ∷ 44 ∷ []) ++ null ++ mark 2 2 0 (null ++ 255 ∷ 200 ∷ [])))

-- tile 9: pit 2 sure, pit 1 not sure
unfoldable pub second : List ℕ
second = message (list2 9 2 (mark 2 2 1 (null ++ 0 ∷ 0 ∷ []) ++ mark 2 1 0 (place 2 ++ 0 ∷ 9 ∷ [])))

-- tile 4, with no marks
unfoldable pub third : List ℕ
third = message (list1 4 0 [])

-- tile 5: pit 1, not sure
unfoldable pub fourth : List ℕ
fourth = message (list1 5 1 (mark 1 1 0 null))

-- a Ping
unfoldable pub ping : List ℕ
ping = message (object 1 1 [])

abbrev pub read : List (List PitList)
read = map list_in (first ∷ deep ∷ second ∷ third ∷ fourth ∷ ping ∷ [])

abbrev pub read_as : List (List PitList)
read_as =
    (record { tile = 9; marks = record { pit = 1; sure = true } ∷ record { pit = 2; sure = false } ∷ [] } ∷ [])
    ∷ (record { tile = 9; marks = record { pit = 1; sure = true } ∷ record { pit = 2; sure = false } ∷ [] } ∷ [])
    ∷ (record { tile = 9; marks = record { pit = 2; sure = true } ∷ record { pit = 1; sure = false } ∷ [] } ∷ [])
    ∷ (record { tile = 4; marks = [] } ∷ [])
    ∷ (record { tile = 5; marks = record { pit = 1; sure = false } ∷ [] } ∷ [])
    ∷ []
    ∷ []

-- ---- a flight of eleven entries of sender 3, kept as a log, and a receiver with slots of 4 bytes

abbrev small : ℕ → List ℕ → List ℕ
small q payload = 0x4c ∷ 0x43 ∷ 0x30 ∷ 0x32 ∷ 0 ∷ 0 ∷ 0 ∷ q ∷ 0x54 ∷ 0 ∷ payload

abbrev pub flight : List Entry
flight =
    entry_of 3 10 (small 1 first)
    -- the second fragment of "ABC": kept
    ∷ entry_of 3 11 (B-of 7)
    -- no bytes, and a payload of 5: refused by 1 and by 6
    ∷ entry_of 3 11 []
    ∷ entry_of 3 11 (head_of 8 5 0 0 2 (0x50 ∷ 0 ∷ 0x41 ∷ []))
    ∷ entry_of 3 12 (small 2 third)
    -- again: a repeat
    ∷ entry_of 3 13 (B-of 7)
    ∷ entry_of 3 14 (small 3 second)
    -- a late copy of the first message: a repeat
    ∷ entry_of 3 15 (small 1 first)
    -- the same list in another message: read, and nothing in it is new
    ∷ entry_of 3 16 (small 4 deep)
    -- "ABC" is whole, and no list
    ∷ entry_of 3 17 (A-of 7)
    -- pit 1 of another tile
    ∷ entry_of 3 18 (small 5 fourth)
    ∷ []

unfoldable pub flight_log : Edition → List ℕ
flight_log v = log_of v flight

abbrev pub store : List ℕ
store = replicate 32 9

abbrev pub ledger : List ℕ
ledger = replicate ledger_length 7

-- what each entry is answered
abbrev pub flight_answers : List Reply
flight_answers =
    delivered first ∷ kept ∷ refused_by 1 ∷ refused_by 6 ∷ delivered third ∷ repeat ∷ delivered second ∷ repeat ∷ delivered deep ∷ delivered (0x41 ∷ 0x42 ∷ 0x43 ∷ []) ∷ delivered fourth ∷ []

-- and in an edition 2 log of limit 2: the 3 bytes of "ABC" are over it, and are refused by 6; small messages are longer, and go through
abbrev pub tight_answers : List Reply
tight_answers =
    delivered first ∷ refused_by 6 ∷ refused_by 1 ∷ refused_by 6 ∷ delivered third ∷ refused_by 6 ∷ delivered second ∷ repeat ∷ delivered deep ∷ refused_by 6 ∷ delivered fourth ∷ []

-- "tile 4 pits 0 sure 0", "tile 5 pits 1 sure 0", "tile 9 pits 2 sure 2"
abbrev pub flight_lines : List Line
flight_lines = record { tile = 4; pits = 0; sure = 0 } ∷ record { tile = 5; pits = 1; sure = 0 } ∷ record { tile = 9; pits = 2; sure = 2 } ∷ []

abbrev pub flight_report : Report
flight_report = record {
  entries = 11;
  kept = 1;
  repeated = 2;
  delivered = 6;
  refused = 0 ∷ 1 ∷ 0 ∷ 0 ∷ 0 ∷ 0 ∷ 1 ∷ 0 ∷ 0 ∷ 0 ∷ [];
  lists = 5;
  lines = flight_lines;
}

abbrev pub tight_report : Report
tight_report = record {
  entries = 11;
  kept = 0;
  repeated = 1;
  delivered = 5;
  refused = 0 ∷ 1 ∷ 0 ∷ 0 ∷ 0 ∷ 0 ∷ 4 ∷ 0 ∷ 0 ∷ 0 ∷ [];
  lists = 5;
  lines = flight_lines;
}

-- the longest list of the flight, of `deep`, has so many numbers
abbrev pub longest : ℕ
longest = 18

-- ---- a log of one fragment, with n 257: edition 1 refuses it by 5, edition 2 keeps it; and a fragment with P 262,145

abbrev pub many : Entry
many = entry_of 3 10 (0x4c ∷ 0x43 ∷ 0x30 ∷ 0x33 ∷ 0 ∷ 0 ∷ 0 ∷ 9 ∷ 0 ∷ 0 ∷ 0 ∷ 4 ∷ 0 ∷ 0 ∷ 0 ∷ 0 ∷ 0 ∷ 1 ∷ 1 ∷ 1 ∷ 0x41 ∷ [])

unfoldable pub many_log : Edition → List ℕ
many_log v = log_of v (many ∷ [])

-- kept so often, and so often refused by 5
abbrev pub many_report : ℕ → ℕ → Report
many_report k five = record {
  entries = 1;
  kept = k;
  repeated = 0;
  delivered = 0;
  refused = 0 ∷ 0 ∷ 0 ∷ 0 ∷ 0 ∷ five ∷ 0 ∷ 0 ∷ 0 ∷ 0 ∷ [];
  lists = 0;
  lines = [];
}

abbrev pub wide : Entry
wide = entry_of 3 10 (0x4c ∷ 0x43 ∷ 0x30 ∷ 0x33 ∷ 0 ∷ 0 ∷ 0 ∷ 9 ∷ 0 ∷ 4 ∷ 0 ∷ 1 ∷ 0 ∷ 0 ∷ 0 ∷ 0 ∷ 0 ∷ 1 ∷ 0 ∷ 3 ∷ 0x41 ∷ [])

-- ---- lists seen of n other tiles
abbrev pub many_tiles : ℕ → List PitList
many_tiles n = build n (λ i. record { tile = 1000 + i; marks = [] })

-- ---- the messages, cut for datagrams of 96 bytes: the first and the second in two fragments each, the others small

abbrev sent : ℕ → List ℕ → Message
sent q payload = cut_message 0 q (0x54 ∷ []) payload 96

abbrev pub messages : List Message
messages = sent 1 first ∷ sent 2 second ∷ sent 3 third ∷ sent 4 ping ∷ []

abbrev pub whole_scene : Scene
whole_scene = record { store = replicate 2048 0; ledger = replicate ledger_length 0; messages = messages }

-- each whole, once
abbrev pub whole_feed : Feed
whole_feed = start ▹ part 0 0 ▹ part 0 1 ▹ part 1 0 ▹ part 1 1 ▹ part 2 0 ▹ part 3 0

-- a longer store, filled otherwise
abbrev pub mixed_scene : Scene
mixed_scene = record { store = replicate 4096 9; ledger = replicate ledger_length 7; messages = messages }

-- mixed, with late copies and an empty datagram
abbrev pub mixed_feed : Feed
mixed_feed = start ▹ part 1 1 ▹ part 0 1 ▹ noise 5 [] ▹ part 2 0 ▹ part 0 1 ▹ part 1 0 ▹ part 1 1 ▹ part 3 0 ▹ part 0 0 ▹ part 2 0

-- "tile 4 pits 0 sure 0", "tile 9 pits 2 sure 2"
abbrev pub lines : List Line
lines = record { tile = 4; pits = 0; sure = 0 } ∷ record { tile = 9; pits = 2; sure = 2 } ∷ []

-- the arrivals of a feed as entries, all at tick 0
abbrev pub entries_of : Scene → Feed → List Entry
entries_of σ f = map (λ x. entry_of x.sender 0 x.datagram) (arrivals σ f)
