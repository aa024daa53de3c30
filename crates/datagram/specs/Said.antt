-- The reader's answer in document 01's values: a refusal's number; a small message's sequence, name and payload; or a fragment. Definitions only.
use Rattle.std.specs.Prelude.{◌≡◌, List, [], ℕ}
use Rattle.wire.specs.Choice.{pick}
use Rattle.datagram.specs.Read.{Read, Good, Refused, read_datagram_lem, part_of}
use Rattle.datagram.specs.declared.Header.{Header}

-- sequence, P, offset, k, n, the name (of fragment 0; else empty) and the data
pub record Fragment : Type 0 where
  pub sequence : ℕ
  pub size : ℕ
  pub offset : ℕ
  pub number : ℕ
  pub count : ℕ
  pub name : List ℕ
  pub bytes : List ℕ

pub data Said : Type 0 where
  refused : ℕ → Said
  small : ℕ → List ℕ → List ℕ → Said
  fragment : Fragment → Said

abbrev pub fragment_in : List ℕ → Header → Fragment
fragment_in d h = record {
  sequence = h.sequence;
  size = h.size;
  offset = h.offset;
  number = h.number;
  count = h.count;
  name = part_of d h.name;
  bytes = part_of d h.payload;
}

-- what each case of the answer says of the datagram d
abbrev pub says : List ℕ → Read → Said
says d (Refused n) = refused n
says d (Good h) = pick h.small (small h.sequence (part_of d h.name) (part_of d h.payload)) (fragment (fragment_in d h))

-- the name and the payload or data that were said: none in a refusal
abbrev pub name_in : Said → List ℕ
name_in (refused n) = []
name_in (small q name payload) = name
name_in (fragment f) = f.name

abbrev pub payload_in : Said → List ℕ
payload_in (refused n) = []
payload_in (small q name payload) = payload
payload_in (fragment f) = f.bytes

-- what the datagram d says, for payloads of at most maxSize bytes in at most maxCount fragments
unfoldable pub said : ℕ → ℕ → List ℕ → Said
said max_size_lem max_count_lem d = says d (read_datagram_lem max_size_lem max_count_lem d)

-- what the reader gives of the datagram d: its answer, and that the answer says what the datagram says
pub record Reads (max_size_lem max_count_lem : ℕ) (d : List ℕ) (r : Read) : Type 0 where
  pub answer : r ≡ read_datagram_lem max_size_lem max_count_lem d
  pub told : says d r ≡ said max_size_lem max_count_lem d
