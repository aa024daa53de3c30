-- The entries in some bytes, or the refusal: document 02, L1. "40 edition, 41 number not shortest, or a tenth byte above 1, 42 length over
-- 65,535, 43 log empty or ending inside an entry, in byte order with 43 before any value that is cut". The head is read by specs/Editions.
-- Definitions only.
use Rattle.std.specs.Prelude.{List, [], ◌∷◌, ℕ, zero, suc, ltb, length, take, drop}
use Rattle.wire.specs.Taken.{Taken, taken, refused, follow}
use Rattle.wire.specs.Choice.{◌when◌else◌}
use Rattle.varint.specs.Seven.{seven_in}
use Rattle.datagram.specs.Limits.{max_datagram}
use Rattle.flight_log.specs.Editions.{Edition, head_in}
use Rattle.flight_log.specs.Entries.{Entry, entry_of}

-- ---- an entry: three numbers, each read as a 64-bit number first, then the bytes

unfoldable pub datagram_in : ℕ → ℕ → ℕ → List ℕ → Taken Entry
datagram_in s t n b =
    refused 42 when ltb max_datagram n else
    refused 43 when ltb (length b) n else
    taken (entry_of s t (take n b)) (drop n b)

unfoldable pub length_in : ℕ → ℕ → List ℕ → Taken Entry
length_in s t b = follow (seven_in b) (λ n. datagram_in s t n)

unfoldable pub tick_in : ℕ → List ℕ → Taken Entry
tick_in s b = follow (seven_in b) (λ t. length_in s t)

unfoldable pub entry_in : List ℕ → Taken Entry
entry_in b = follow (seven_in b) (λ s. tick_in s)

-- ---- all entries: the whole list, or those before the refusal and its number

pub data Listed : Type 0 where
  whole : List Entry → Listed
  broken : List Entry → ℕ → Listed

abbrev pub after : Entry → Listed → Listed
after e (whole es) = whole (e ∷ es)
after e (broken es n) = broken (e ∷ es) n

-- what was taken, and then what is listed of the rest
abbrev pub more : (List ℕ → Listed) → Taken Entry → Listed
more rest (taken e b) = after e (rest b)
more rest (refused n) = broken [] n

abbrev pub one_more_lem : (List ℕ → Listed) → List ℕ → Listed
one_more_lem rest [] = whole []
one_more_lem rest (x ∷ b) = more rest (entry_in (x ∷ b))

-- An entry takes a byte at least, so as many turns as there are bytes are enough.
unfoldable pub list_by : ℕ → List ℕ → Listed
list_by zero b = whole []
list_by (suc k) b = one_more_lem (list_by k) b

unfoldable pub entries_after : Taken Edition → Listed
entries_after (taken v b) = list_by (length b) b
entries_after (refused n) = broken [] n

unfoldable pub entries_in : List ℕ → Listed
entries_in b = entries_after (head_in b)
