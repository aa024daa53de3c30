-- Input that a buffer holds as a whole. Definitions only.
use Rattle.std.specs.Prelude.{◌≡◌, List, ℕ, ◌≤◌, ◌<◌, length, take, Option, Some, None}

-- the whole input stands at the front of the buffer, so many bytes; or it is longer than the buffer
pub data All : Type 0 where
  Whole : ℕ → All
  Longer : All

-- what the code says
abbrev pub told_all : Option ℕ → All
told_all (Some k) = Whole k
told_all None = Longer

-- `came` is what the system gave: it stands at the front of the buffer
pub record Held (n : ℕ) (after : List ℕ) (k : ℕ) : Type 0 where
  pub came : List ℕ
  pub front : take k after ≡ came
  pub size : k ≡ length came
  pub fits : k ≤ n

-- or more than the buffer holds came: its front fills the buffer
pub record Exceeds (n : ℕ) (after : List ℕ) : Type 0 where
  pub came : List ℕ
  pub front : after ≡ take n came
  pub more : n < length came

abbrev pub HoldsAll : ℕ → List ℕ → All → Type 0
HoldsAll n after (Whole k) = Held n after k
HoldsAll n after Longer = Exceeds n after
