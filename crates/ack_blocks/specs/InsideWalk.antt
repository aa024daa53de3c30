-- What the walk over the blocks hands on: for the contracts of private functions only. Definitions only.
use Rattle.std.specs.Prelude.{Bool, ◌||◌, List, ℕ, ◌≤◌, eqb, length}
use Rattle.wire.specs.Choice.{pick}
use Rattle.ack_blocks.specs.Limits.{max_blocks}
use Rattle.ack_blocks.specs.Read.{Given, gives, refuses}

-- a place of a block list
pub record Inside (b : List ℕ) (at : ℕ) : Type 0 where
  pub place : at ≤ length b
  pub fits : length b ≤ max_blocks

-- what was found before, or is found after
abbrev pub also : Bool → Given Bool → Given Bool
also found (refuses number) = refuses number
also found (gives more) = gives (found || more)

-- what is wrong with a block, by its number: 0 where nothing is
abbrev pub judged : ℕ → Given (Unit {0})
judged fault = pick (eqb fault 0) (gives tt) (refuses fault)
