-- LENT SLICES, as a contract has them: what they held at its entry, and what they hold at its exit. Definitions only.
use Rattle.std.specs.Prelude.{Bool, List, ℕ, ℤ, ltb, length}
use denote.Ref.{MutBor}
use denote.Triple.Both.{Both}

-- a lent slice of bytes or of other numbers that have no sign
abbrev pub Slice : Type 0
Slice = Both (MutBor (List ℕ)) (MutBor (List ℕ))

-- a lent slice of signed numbers
abbrev pub SignedSlice : Type 0
SignedSlice = Both (MutBor (List ℤ)) (MutBor (List ℤ))

-- both of one slice
pub record Buffer : Type 0 where
  pub before : List ℕ
  pub after : List ℕ

infixl 20 ◌⇒◌
abbrev pub ◌⇒◌ : List ℕ → List ℕ → Buffer
x ⇒ y = record { before = x; after = y }

abbrev pub buffer : Slice → Buffer
buffer s = s.entry.now ⇒ s.exit.now

-- a list with room for fewer than n numbers
abbrev pub short : ℕ → List ℕ → Bool
short n l = ltb (length l) n
