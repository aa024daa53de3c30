-- INSIDE: what only private contracts use. Definitions only; no promise of a public function rests on them.
use Rattle.std.specs.Prelude.{◌≡◌, List, ℕ, ◌+◌, ◌-◌, ◌≤◌, length, take, drop}
use Rattle.wire.specs.Overlay.{overlay}
use Rattle.log_index.specs.Words.{row_at, rank_in, inserted}

-- the words from a place up to another, so many further up
abbrev pub moved_up : List ℕ → ℕ → ℕ → ℕ → List ℕ
moved_up w from to by = overlay w (from + by) (take (to - from) (drop from w))

-- a turn of it
pub record MergesOne (w : List ℕ) (n : ℕ) (batch : List ℕ) (j at : ℕ) (w' : List ℕ) : Type 0 where
  pub place : at ≡ rank_in w n (row_at batch j)
  pub within : at ≤ n
  pub size : length w' ≡ length w
  pub words : w' ≡ inserted w (rank_in w n (row_at batch j)) n j (row_at batch j)
