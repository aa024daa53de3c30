-- What the loops over a list hand on: for the contracts of private functions only. Definitions only.
use Rattle.std.specs.Prelude.{◌≡◌, Bool, ◌&&◌, List, ◌∷◌, ℕ, ◌+◌, ◌<◌, ◌≤◌, length, get_or, drop, Result}
use Rattle.wire.specs.Overlay.{overlay}
use Rattle.ack_blocks.specs.Limits.{max_blocks}
use Rattle.ack_blocks.specs.Read.{gives}
use Rattle.ack_writer.specs.Write.{rising, one_block, blocks_of, bytes_of, written_of, writes}
use Rattle.refusals.specs.declared.Refusal.{Refusal}

-- the run from a place of a list goes to a last number, and after it the list goes on at the next place; rises: with a number above it, or none
pub record RunFrom (l : List ℕ) (from last next : ℕ) (rises : Bool) : Type 0 where
  pub after : from < next
  pub inside : next ≤ length l
  pub rise : rising (drop from l) ≡ (rises && rising (drop next l))
  pub blocks : blocks_of (drop from l) ≡ one_block (get_or l from 0) last ∷ blocks_of (drop next l)

-- bytes put at a place that is not past the most, and the place after them
pub record PutNext (d : List ℕ) (at : ℕ) (s : List ℕ) (r : ℕ) (d' : List ℕ) : Type 0 where
  pub on : at ≤ r
  pub size : length d' ≡ length d
  pub next : at ≤ max_blocks → r ≡ at + length s
  pub put : at ≤ max_blocks → d' ≡ overlay d at s

-- the writer's answer; where it gives a number, the blocks stand at the start of the block space
pub record Lays (l : List ℕ) (room : ℕ) (d : List ℕ) (r : Result ℕ Refusal) (d' : List ℕ) : Type 0 where
  pub answer : writes r ≡ written_of l room
  pub laid : (n : ℕ) → writes r ≡ gives n → d' ≡ overlay d 0 (bytes_of l)
