-- A whole message of one table: "LMCP", the root's length, the root, the checksum. Definitions only.
use Rattle.std.specs.Prelude.{◌≡◌, Bool, not, ◌||◌, List, ◌++◌, ℕ, ◌+◌, ◌-◌, ◌%◌, ◌^◌, ltb, leb, eqb, ℤ, length, take, drop}
use Rattle.std.proofs.lemmas.List.Edits.{sets}
use Rattle.wire.specs.Choice.{pick, ◌when◌else◌}
use Rattle.wire.specs.Bytes.{be, bytes}
use Rattle.wire.specs.Sum.{sum}
use Rattle.wire.specs.Same.{same}
use Rattle.wire.specs.Overlay.{overlay}
use Rattle.lmcp.specs.Found.{Found, Numbers, Refused as Unread}
use Rattle.lmcp.specs.Made.{Made, Bytes, Refused as Unwritten}
use Rattle.lmcp.specs.Limits.{max_message, magic}
use Rattle.lmcp.specs.Run.{got, refused, whole}
use Rattle.lmcp.specs.Table.{Table}
use Rattle.lmcp.specs.Walk.{root}
use Rattle.lmcp.specs.Read.{Read, reading}
use Rattle.lmcp.specs.Write.{Write, writing}

-- the sum of all bytes, modulo 2 ^ 32
abbrev pub checksum_of : List ℕ → ℕ
checksum_of b = sum b % 2 ^ 32

-- ---- reading

-- the root, all before the checksum, and the checksum's field
abbrev pub root_of : List ℕ → List ℕ
root_of m = take (length m - 12) (drop 8 m)

abbrev pub before : List ℕ → List ℕ
before m = take (length m - 4) m

abbrev pub stored : List ℕ → ℕ
stored m = be 4 (drop (length m - 4) m)

-- what is wrong with a message before its root: 0 for nothing, else the number of the refusal
unfoldable pub frame : List ℕ → ℕ
frame m =
    20 when ltb (length m) 12 || not (same (take 4 m) magic) else
    21 when ltb max_message (length m) || not (eqb (length m) (12 + be 4 (drop 4 m))) else
    0 when eqb (stored m) 0 || eqb (stored m) (checksum_of (before m)) else
    22

unfoldable pub read_message_lem : Table → List ℕ → Read
read_message_lem T m = pick (eqb (frame m) 0) (whole (root (reading T) T (root_of m))) (refused (frame m))

-- the checksum that a message has: calculated, or left zero
abbrev pub choice : List ℕ → Bool
choice m = not (eqb (stored m) 0)

-- the answer, for a list with room for so many numbers, and what the lent list then holds
unfoldable pub found : Read → ℕ → Found
found (got zs r) room = pick (leb (length zs) room) (Numbers (length zs)) (Unread 13)
found (refused n) room = Unread n

unfoldable pub listed : Read → List ℤ → List ℤ
listed (got zs r) list = pick (leb (length zs) (length list)) (sets list 0 zs) list
listed (refused n) list = list

-- the contract of the reader
pub record ReadTo (R : Read) (before : List ℤ) (answer : Found) (after : List ℤ) : Type 0 where
  pub gave : answer ≡ found R (length before)
  pub left : after ≡ listed R before

-- ---- writing

-- all before the checksum, of a root's bytes
abbrev pub head_on : List ℕ → List ℕ
head_on bs = magic ++ (bytes 4 (length bs) ++ bs)

-- the whole message: the checksum is calculated, or left zero
abbrev pub message_on : Bool → List ℕ → List ℕ
message_on calculate bs = head_on bs ++ bytes 4 (pick calculate (checksum_of (head_on bs)) 0)

unfoldable pub framed : Bool → Write → Write
framed calculate (got bs r) = pick (ltb max_message (12 + length bs)) (refused 21) (got (message_on calculate bs) r)
framed calculate (refused n) = refused n

unfoldable pub write_message_lem : Table → Bool → List ℤ → Write
write_message_lem T calculate l = framed calculate (whole (root (writing T) T l))

-- the answer, for an output with room for so many bytes, and what the lent output then holds
unfoldable pub made : Write → ℕ → Made
made (got m r) room = pick (leb (length m) room) (Bytes (length m)) (Unwritten 13)
made (refused n) room = Unwritten n

unfoldable pub written : Write → List ℕ → List ℕ
written (got m r) out = pick (leb (length m) (length out)) (overlay out 0 m) out
written (refused n) out = out

-- the contract of the writer
pub record WrittenTo (R : Write) (before : List ℕ) (answer : Made) (after : List ℕ) : Type 0 where
  pub gave : answer ≡ made R (length before)
  pub left : after ≡ written R before
