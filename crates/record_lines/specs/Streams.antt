-- THE RECORDS OF AN INPUT, one after another, and how it ended. Definitions only.
use Rattle.std.specs.Prelude.{Bool, true, false, List, [], ◌∷◌, ℕ, zero, suc, ◌+◌, min, leb, length, take, drop}
use Rattle.std.proofs.Math.Seq.{slice}
use Rattle.wire.specs.Choice.{◌when◌else◌}
use Rattle.wire.specs.Bytes.{be}
use Rattle.stream.specs.declared.Kind.{Kind}
use Rattle.stream.specs.Records.{head_of, body_length_lem, is_whole, holds}

-- a record: its head, and its body, or as much of it as the buffer holds
pub record Rec : Type 0 where
  pub head : List ℕ
  pub body : List ℕ

-- the first n numbers of a body, of 8 bytes each, each taken as f says
abbrev pub numbers_in : {X : Type 0} → (ℕ → X) → ℕ → List ℕ → List X
numbers_in f zero b = []
numbers_in f (suc n) b = f (be 8 b) ∷ numbers_in f n (drop 8 b)

-- the one at the front of b, in a buffer of n bytes
abbrev pub first_of : Kind → ℕ → List ℕ → Rec
first_of kind n b =
    record {
      head = take (head_of kind) b;
      body = slice (head_of kind) (head_of kind + min (body_length_lem kind b) (holds kind n)) b;
    }

-- what follows it
abbrev pub after_first : Kind → List ℕ → List ℕ
after_first kind b = drop (head_of kind + body_length_lem kind b) b

-- records, and then the input ended; or it was cut, inside a record
pub data Stream : Type 0 where
  ended : Stream
  cut : Stream
  also : Rec → Stream → Stream

-- a record that is whole, and then what `rest` makes of the bytes after it
abbrev pub if_whole : Bool → (List ℕ → Stream) → Kind → ℕ → List ℕ → Stream
if_whole true rest kind n b = also (first_of kind n b) (rest (after_first kind b))
if_whole false rest kind n b = cut

abbrev pub one_more_lem : (List ℕ → Stream) → Kind → ℕ → List ℕ → Stream
one_more_lem rest kind n [] = ended
one_more_lem rest kind n (x ∷ b) = if_whole (is_whole kind (x ∷ b)) rest kind n (x ∷ b)

-- A record takes two bytes at least, so as many turns as there are bytes are enough.
unfoldable pub read_by : ℕ → Kind → ℕ → List ℕ → Stream
read_by zero kind n b = ended
read_by (suc k) kind n b = one_more_lem (read_by k kind n) kind n b

-- at most m records; what stands behind the last of them is not read, and the input counts as cut there
abbrev pub up_to : Stream → ℕ → Stream
up_to ended zero = cut
up_to ended (suc m) = ended
up_to cut m = cut
up_to (also x s) zero = cut
up_to (also x s) (suc m) = also x (up_to s m)

-- more records than any input has
abbrev pub many : ℕ
many = 18446744073709551615

-- At most m records of the input b, as they stand one after another in a buffer of n bytes. Where that has no room for a head and one byte more,
-- none does.
unfoldable pub records_in : ℕ → Kind → ℕ → List ℕ → Stream
records_in m kind n b =
    cut when leb n (head_of kind + 1) else
    up_to (read_by (length b) kind n b) m
