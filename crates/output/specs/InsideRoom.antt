-- Room is made: a buffer that is full up to the place is written out. Used by private contracts only.
use Rattle.std.specs.Prelude.{◌≡◌, ℕ}
use Rattle.output.specs.Output.{closed}

-- the place to go on from in a buffer of n bytes: the place itself, and of a full buffer its front, unless the output is closed
pub record Clears (n at r : ℕ) : Type 0 where
  pub kept : (at ≡ n → ⊥) → r ≡ at
  pub front : at ≡ n → (r ≡ closed → ⊥) → r ≡ 0
