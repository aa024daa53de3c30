-- What a datagram says, as numbers and places: document 01, "Datagrams", and refusals 3, 1, 2, 5, 6, 4, 7 in that order. Definitions only.
use Rattle.std.specs.Prelude.{Bool, true, false, ◌||◌, List, ℕ, ◌+◌, ◌-◌, eqb, leb, ltb, length, take, drop, Option, Some, None, Result, Ok, Err}
use Rattle.wire.specs.Bytes.{be}
use Rattle.wire.specs.Choice.{pick, ◌when◌else◌}
use Rattle.forms.specs.Form.{good_fragment_lem}
use Rattle.datagram.specs.Limits.{max_datagram}
use Rattle.datagram.specs.Name.{name_length_lem}
use Rattle.datagram.specs.declared.Place.{Place}
use Rattle.datagram.specs.declared.Header.{Header}
use Rattle.refusals.specs.declared.Refusal.{Refusal}
use Rattle.refusals.specs.Numbers.{number_of}

-- ---- the answer: the header of a datagram of good form, or the number of the refusal

pub data Read : Type 0 where
  Good : Header → Read
  Refused : ℕ → Read

-- what the code says, in the papers' values
abbrev pub told : Result Header Refusal → Read
told (Ok h) = Good h
told (Err r) = Refused (number_of r)

-- ---- the numbers of a header, each where document 01 puts it

-- the big-endian number of k bytes at a place
abbrev pub num : ℕ → ℕ → List ℕ → ℕ
num k at d = be k (drop at d)

abbrev pub small_magic : ℕ
small_magic = 0x4c433032

abbrev pub fragment_magic : ℕ
fragment_magic = 0x4c433033

abbrev pub magic_in : List ℕ → ℕ
magic_in d = num 4 0 d

abbrev pub sequence_in : List ℕ → ℕ
sequence_in d = num 4 4 d

abbrev pub size_in : List ℕ → ℕ
size_in d = num 4 8 d

abbrev pub offset_in : List ℕ → ℕ
offset_in d = num 4 12 d

abbrev pub number_in : List ℕ → ℕ
number_in d = num 2 16 d

abbrev pub count_in : List ℕ → ℕ
count_in d = num 2 18 d

abbrev pub place : ℕ → ℕ → Place
place at n = record { at = at; len = n }

-- from a place to the end
abbrev pub rest : List ℕ → ℕ → Place
rest d at = place at (length d - at)

-- ---- small: magic, sequence, name, one zero byte, payload up to the end. It is told as the only fragment of its payload.

abbrev pub small_header : List ℕ → ℕ → Header
small_header d c = record {
  small = true;
  sequence = sequence_in d;
  size = length d - (9 + c);
  offset = 0;
  number = 0;
  count = 1;
  name = place 8 c;
  payload = rest d (9 + c);
}

abbrev pub small_to : List ℕ → Option ℕ → Read
small_to d None = Refused 4
small_to d (Some c) = Good (small_header d c)

unfoldable pub read_small_lem : List ℕ → Read
read_small_lem d = small_to d (name_length_lem (drop 8 d))

-- ---- fragment: 20 bytes of header; in fragment 0 the name and a zero byte follow; in all others data follows at once

-- the form of a fragment, with the length of its data
unfoldable pub good_form : Header → Bool
good_form h = good_fragment_lem h.size h.offset h.number h.count h.payload.len

-- the header of a fragment whose name and data stand there
abbrev pub fragment_header : List ℕ → Place → ℕ → Header
fragment_header d name at = record {
  small = false;
  sequence = sequence_in d;
  size = size_in d;
  offset = offset_in d;
  number = number_in d;
  count = count_in d;
  name = name;
  payload = rest d at;
}

unfoldable pub formed : List ℕ → Place → ℕ → Read
formed d name at = pick (good_form (fragment_header d name at)) (Good (fragment_header d name at)) (Refused 7)

abbrev pub zero_to : List ℕ → Option ℕ → Read
zero_to d None = Refused 4
zero_to d (Some c) = formed d (place 20 c) (21 + c)

unfoldable pub read_fragment_lem : ℕ → ℕ → List ℕ → Read
read_fragment_lem max_size_lem max_count_lem d =
    Refused 5 when eqb (count_in d) 0 || (ltb max_count_lem (count_in d) || leb (count_in d) (number_in d)) else
    Refused 6 when ltb max_size_lem (size_in d) else
    zero_to d (name_length_lem (drop 20 d)) when eqb (number_in d) 0 else
    formed d (place 20 0) 20

-- ---- any bytes

unfoldable pub read_datagram_lem : ℕ → ℕ → List ℕ → Read
read_datagram_lem max_size_lem max_count_lem d =
    Refused 3 when ltb max_datagram (length d) else
    Refused 1 when ltb (length d) 8 else
    read_small_lem d when eqb (magic_in d) small_magic else
    pick (ltb (length d) 20) (Refused 1) (read_fragment_lem max_size_lem max_count_lem d) when eqb (magic_in d) fragment_magic else
    Refused 2

-- ---- a part of the datagram, by its place

abbrev pub part_of : List ℕ → Place → List ℕ
part_of d p = take p.len (drop p.at d)
