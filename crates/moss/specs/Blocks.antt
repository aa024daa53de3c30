-- Message blocks: each a 2-byte length and its bytes, one after another. Definitions only.
use Rattle.std.specs.Prelude.{Bool, List, [], ◌∷◌, ◌++◌, ℕ, zero, suc, ◌+◌, ltb, length, take, drop}
use Rattle.std.proofs.Math.Option.{Option, none, some}
use Rattle.wire.specs.Choice.{pick}
use Rattle.wire.specs.Bytes.{be, bytes}

-- the block of a message, and of messages in order
abbrev pub block : List ℕ → List ℕ
block m = bytes 2 (length m) ++ m

abbrev pub laid : List (List ℕ) → List ℕ
laid [] = []
laid (m ∷ ms) = block m ++ laid ms

-- the block at the front of b is cut: its length, or its bytes
abbrev pub is_cut : List ℕ → Bool
is_cut b = ltb (length b) (2 + be 2 b)

-- its message, and what follows the block
abbrev pub first_message : List ℕ → List ℕ
first_message b = take (be 2 b) (drop 2 b)

abbrev pub behind : List ℕ → List ℕ
behind b = drop (2 + be 2 b) b

abbrev pub before : List ℕ → Option (List (List ℕ)) → Option (List (List ℕ))
before m none = none
before m (some ms) = some (m ∷ ms)

abbrev pub nothing_in : List ℕ → Option (List (List ℕ))
nothing_in [] = some []
nothing_in (x ∷ b) = none

-- at the end there are no more; else there is a block, and then the rest
abbrev pub first_then : List ℕ → Option (List (List ℕ)) → Option (List (List ℕ))
first_then [] rest = some []
first_then (x ∷ b) rest = pick (is_cut (x ∷ b)) none (before (first_message (x ∷ b)) rest)

-- the messages of the blocks in b, of which there are at most so many; none where they do not fill b exactly
unfoldable pub messages_within : ℕ → List ℕ → Option (List (List ℕ))
messages_within zero b = nothing_in b
messages_within (suc turns) b = first_then b (messages_within turns (behind b))

-- a block has at least two bytes, so there are no more blocks than bytes
abbrev pub messages_in : List ℕ → Option (List (List ℕ))
messages_in b = messages_within (length b) b
