-- The datagrams that carry a message: document 01, "The cutter", and refusals 10, 4, 6, 11, 12, 13 in that order. Definitions only.
use Rattle.std.specs.Prelude.{◌≡◌, Bool, ◌||◌, List, [], ◌++◌, ℕ, ◌+◌, ◌*◌, ◌-◌, ◌/◌, ◌≤◌, min, eqb, leb, ltb, length, take, drop, Result, Ok, Err}
use Rattle.wire.specs.Bytes.{bytes}
use Rattle.wire.specs.Overlay.{overlay}
use Rattle.datagram.specs.Limits.{max_payload, max_fragments, max_name}
use Rattle.wire.specs.Choice.{pick, ◌when◌else◌}
use Rattle.names.specs.Name.{good_name_lem}
use Rattle.datagram.specs.Read.{small_magic, fragment_magic}
use Rattle.cutter.specs.Limits.{least_size, most_size}
use Rattle.cutter.specs.declared.Cut.{Cut}
use Rattle.refusals.specs.declared.Refusal.{Refusal}
use Rattle.refusals.specs.Numbers.{number_of}

-- a name of c bytes and datagrams of m bytes that can be used
pub record Sized (c m : ℕ) : Type 0 where
  pub name : c ≤ max_name
  pub least : least_size ≤ m
  pub most : m ≤ most_size

-- ---- how a name of c bytes and a payload of p bytes are cut for datagrams of m bytes

-- they fit a small datagram
abbrev pub is_small : ℕ → ℕ → ℕ → Bool
is_small c p m = leb (9 + c + p) m

-- how much data fragment k can carry
abbrev pub carries : ℕ → ℕ → ℕ → ℕ
carries c m k = pick (eqb k 0) (m - (21 + c)) (m - 20)

-- where its data begins: after that of fragment 0 and of the k - 1 others before it
abbrev pub begins_at_lem : ℕ → ℕ → ℕ → ℕ
begins_at_lem c m k = pick (eqb k 0) 0 (m - (21 + c) + (k - 1) * (m - 20))

-- the number of datagrams: fragment 0, and what is left of the payload in parts of m - 20 bytes, rounded up
unfoldable pub count_of : ℕ → ℕ → ℕ → ℕ
count_of c p m = pick (is_small c p m) 1 (1 + (p - (m - (21 + c)) + (m - 21)) / (m - 20))

-- the length of datagram k
unfoldable pub length_of : ℕ → ℕ → ℕ → ℕ → ℕ
length_of c p m k = pick (is_small c p m) (9 + c + p) (pick (eqb k 0) (21 + c) 20 + min (carries c m k) (p - begins_at_lem c m k))

-- ---- the bytes

unfoldable pub small_bytes : ℕ → List ℕ → List ℕ → List ℕ
small_bytes q name payload = bytes 4 small_magic ++ bytes 4 q ++ name ++ bytes 1 0 ++ payload

unfoldable pub head_bytes : ℕ → ℕ → ℕ → ℕ → ℕ → List ℕ
head_bytes q size offset number count = bytes 4 fragment_magic ++ bytes 4 q ++ bytes 4 size ++ bytes 4 offset ++ bytes 2 number ++ bytes 2 count

-- the data of fragment k
unfoldable pub piece_of : List ℕ → List ℕ → ℕ → ℕ → List ℕ
piece_of name payload m k = take (carries (length name) m k) (drop (begins_at_lem (length name) m k) payload)

-- fragment k of n
unfoldable pub fragment_bytes : ℕ → List ℕ → List ℕ → ℕ → ℕ → ℕ → List ℕ
fragment_bytes q name payload m k n =
    head_bytes q (length payload) (begins_at_lem (length name) m k) k n ++ pick (eqb k 0) (name ++ bytes 1 0) [] ++ piece_of name payload m k

-- datagram k of a message
unfoldable pub datagram_of : ℕ → List ℕ → List ℕ → ℕ → ℕ → List ℕ
datagram_of q name payload m k =
    pick (is_small (length name) (length payload) m) (small_bytes q name payload)
    (fragment_bytes q name payload m k (count_of (length name) (length payload) m))

-- ---- what the cutter answers and writes, for an output of that many bytes

-- the number of datagrams and the length of the one asked for; or the number of the refusal
pub data Answer : Type 0 where
  gives : ℕ → ℕ → Answer
  refused : ℕ → Answer

-- what the code says, in the papers' values
abbrev pub says : Result Cut Refusal → Answer
says (Ok c) = gives c.count c.len
says (Err r) = refused (number_of r)

-- by the lengths alone
unfoldable pub plan_of : ℕ → ℕ → ℕ → ℕ → ℕ → Answer
plan_of c p m index room =
    refused 6 when ltb max_payload p else
    refused 11 when ltb max_fragments (count_of c p m) else
    refused 12 when leb (count_of c p m) index else
    refused 13 when ltb room (length_of c p m index) else
    gives (count_of c p m) (length_of c p m index)

unfoldable pub cut_answer : List ℕ → List ℕ → ℕ → ℕ → ℕ → Answer
cut_answer name payload m index room =
    refused 10 when ltb m least_size || ltb most_size m else
    plan_of (length name) (length payload) m index room when good_name_lem name else
    refused 4

-- a refusal leaves the output; else the datagram stands at its start
abbrev pub cut_output : Answer → List ℕ → List ℕ → List ℕ
cut_output (refused n) out d = out
cut_output (gives n l) out d = overlay out 0 d

pub record CutTo (name payload : List ℕ) (q m index : ℕ) (out : List ℕ) (r : Result Cut Refusal) (out' : List ℕ) : Type 0 where
  pub answer : says r ≡ cut_answer name payload m index (length out)
  pub output : out' ≡ cut_output (says r) out (datagram_of q name payload m index)
