-- Records in the input, each after a head that says how long it is. Definitions only.
use Rattle.std.specs.Prelude.{◌≡◌, Bool, true, false, ◌&&◌, List, [], ◌++◌, ℕ, ◌+◌, ◌-◌, ◌*◌, ◌≤◌, ◌<◌, min, length, take, drop, leb, Result, Ok, Err}
use Rattle.std.proofs.Math.Seq.{slice}
use Rattle.wire.specs.Bytes.{be}
use Rattle.stream.specs.declared.Kind.{Kind}
use Rattle.stream.specs.declared.Kind.TheVariants.{Bytes2, Bytes4, Numbers, Entry}
use Rattle.stream.specs.declared.Input.{Input}
use Rattle.stream.specs.declared.Record.{Record as RecordAt}
use Rattle.stream.specs.declared.Ending.{Ending}
use Rattle.stream.specs.declared.Ending.TheVariants as ending

-- THE ANSWER: a record, where its body stands, how much of it, and the input after it; or the input ended, or was cut inside a record
pub data Next : Type 0 where
  Record : ℕ → ℕ → Input → Next
  End : Next
  Cut : Next

-- what the code says
abbrev pub ended_as : Ending → Next
ended_as ending.End = End
ended_as ending.Cut = Cut

abbrev pub told : Result RecordAt Ending → Next
told (Ok r) = Record r.at r.len r.rest
told (Err e) = ended_as e

-- a 2-byte length; a 4-byte length; one byte and then a 4-byte count of 8-byte numbers; an 8-byte sender, an 8-byte tick and a 2-byte length
abbrev pub head_of : Kind → ℕ
head_of Bytes2 = 2
head_of Bytes4 = 4
head_of Numbers = 5
head_of Entry = 18

-- the last bytes of the head, big-endian, count the body's units
abbrev pub width_of : Kind → ℕ
width_of Bytes2 = 2
width_of Bytes4 = 4
width_of Numbers = 4
width_of Entry = 2

abbrev pub unit_of : Kind → ℕ
unit_of Bytes2 = 1
unit_of Bytes4 = 1
unit_of Numbers = 8
unit_of Entry = 1

-- how many bytes follow the head at the front of b
unfoldable pub body_length_lem : Kind → List ℕ → ℕ
body_length_lem kind b = unit_of kind * be (width_of kind) (drop (head_of kind - width_of kind) b)

-- a record stands whole at the front of b
unfoldable pub is_whole : Kind → List ℕ → Bool
is_whole kind b = leb (head_of kind) (length b) && leb (head_of kind + body_length_lem kind b) (length b)

-- the bytes of the buffer that are not read yet
abbrev pub unread : List ℕ → Input → List ℕ
unread b i = slice i.at i.end b

-- a buffer has room for a head and one byte more; how much of a body it holds then
abbrev pub Roomy : Kind → List ℕ → Type 0
Roomy kind b = head_of kind + 1 < length b

abbrev pub holds : Kind → ℕ → ℕ
holds kind n = n - (head_of kind + 1)

-- A record was taken. `came` is what the system gave meanwhile; with what was unread it holds the record whole. The body stands at `at`, as
-- much of it as the buffer holds, the head before it, and what follows the whole record is unread now.
pub record Took (kind : Kind) (before : List ℕ) (i : Input) (after : List ℕ) (at len : ℕ) (left : Input) : Type 0 where
  pub came : List ℕ
  pub room : Roomy kind before
  pub whole : is_whole kind (unread before i ++ came) ≡ true
  pub size : len ≡ min (body_length_lem kind (unread before i ++ came)) (holds kind (length before))
  pub headed : head_of kind ≤ at
  pub head : slice (at - head_of kind) at after ≡ take (head_of kind) (unread before i ++ came)
  pub body : slice at (at + len) after ≡ slice (head_of kind) (head_of kind + len) (unread before i ++ came)
  pub within : at + len ≤ length after
  pub rest : unread after left ≡ drop (head_of kind + body_length_lem kind (unread before i ++ came)) (unread before i ++ came)

-- The input ended: nothing was unread, and nothing came.
pub record Ends (kind : Kind) (before : List ℕ) (i : Input) : Type 0 where
  pub came : List ℕ
  pub room : Roomy kind before
  pub none : unread before i ++ came ≡ []

-- At least one byte stands, and no whole record with it; or the buffer has no room for a head and one byte more.
pub record Lacks (kind : Kind) (before : List ℕ) (i : Input) : Type 0 where
  pub came : List ℕ
  pub some : Roomy kind before → 0 < length (unread before i ++ came)
  pub cut : Roomy kind before → is_whole kind (unread before i ++ came) ≡ false

abbrev pub Gives : Kind → List ℕ → Input → List ℕ → Next → Type 0
Gives kind before i after (Record at len left) = Took kind before i after at len left
Gives kind before i after End = Ends kind before i
Gives kind before i after Cut = Lacks kind before i
