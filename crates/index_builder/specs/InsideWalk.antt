-- INSIDE: what only private contracts use. Definitions only; no promise of a public function rests on them.
use Rattle.std.specs.Prelude.{◌≡◌, List, ℕ, ◌+◌, ◌/◌, ◌≤◌, ◌<◌, length}
use Rattle.log_index.specs.Rows.{Row}
use Rattle.log_index.specs.Index.{Gathered, gathered, stopped, Answer, holds, refuses}
use Rattle.log_index.specs.Words.{entered_all, merged, added_in}
use Rattle.index_builder.specs.Adds.{Indexed, says}

-- how many rows there are then
abbrev pub total_of : ℕ → Gathered → Answer
total_of n (gathered rs) = holds (n + length rs)
total_of n (stopped k) = refuses k

-- a full batch is merged, and one that is not waits
pub record Settles (w : List ℕ) (n : ℕ) (batch : List ℕ) (m rows waiting : ℕ) (w' : List ℕ) : Type 0 where
  pub sum : rows + waiting ≡ n + m
  pub size : length w' ≡ length w
  pub waits : m < length batch / 3 → (waiting ≡ m) × (w' ≡ w)
  pub settles : length batch / 3 ≤ m → (waiting ≡ 0) × (w' ≡ merged w n batch m)

-- some rows, at most one, entered
pub record Takes (rs : List Row) (w : List ℕ) (n : ℕ) (r : ℕ) (w' : List ℕ) : Type 0 where
  pub few : length rs ≤ 1
  pub next : r ≡ n + length rs
  pub size : length w' ≡ length w
  pub words : w' ≡ entered_all w n rs

-- with so many words for a batch
pub record Walked (g : Gathered) (w : List ℕ) (n room : ℕ) (r : Indexed) (w' : List ℕ) : Type 0 where
  pub answer : says r ≡ total_of n g
  pub size : length w' ≡ length w
  pub words : 1 ≤ room / 3 → (rs : List Row) → g ≡ gathered rs → w' ≡ added_in (room / 3) w n rs
