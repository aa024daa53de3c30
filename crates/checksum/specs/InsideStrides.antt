-- What the loops of `checksum` hand on. Definition only, for private contracts.
use Rattle.std.specs.Prelude.{◌≡◌, List, ℕ, ◌%◌, ◌^◌, ◌≤◌, length, take}
use Rattle.wire.specs.Sum.{sum}

-- t is the sum of the first i bytes of b, modulo 2^32
pub record Summed (b : List ℕ) (i t : ℕ) : Type 0 where
  pub inside : i ≤ length b
  pub so_far : t ≡ sum (take i b) % 2 ^ 32
