-- Worked: senders at different numbers, whose watches go on each by itself. Definitions only.
use Rattle.std.specs.Prelude.{List, [], ◌∷◌, ◌++◌, map, ℕ, ◌+◌, ◌*◌, replicate}
use Rattle.differences.specs.Noted.{Noted, first, forward, same, late, restarted}
use Rattle.watch.specs.Worked.{Come, of}

pub record Mixed : Type 0 where
  pub come : List Come
  pub gives : List Noted

abbrev pub numbered : List ℕ
numbered = 0 ∷ 1 ∷ 2 ∷ 3 ∷ 4 ∷ 5 ∷ 6 ∷ 7 ∷ 8 ∷ 9 ∷ 10 ∷ 11 ∷ 12 ∷ 13 ∷ 14 ∷ 15 ∷ []

abbrev pub mixed : List Mixed
mixed =
    -- two senders by turns, 1 from 5 on and 2 from 2,000: one misses, one is late, one restarts, and the other goes on by itself
    record {
      come = of 1 5 ∷ of 2 2000 ∷ of 1 6 ∷ of 2 2003 ∷ of 1 4 ∷ of 2 7 ∷ of 1 7 ∷ of 2 8 ∷ of 1 7 ∷ [];
      gives = first ∷ first ∷ forward 0 ∷ forward 2 ∷ late 2 ∷ restarted 7 ∷ forward 0 ∷ forward 0 ∷ same ∷ [];
    }
    -- a third comes between: the first two stay where they were
    ∷ record {
      come = of 1 5 ∷ of 2 900 ∷ of 3 4294967295 ∷ of 1 6 ∷ of 2 901 ∷ of 3 0 ∷ [];
      gives = first ∷ first ∷ first ∷ forward 0 ∷ forward 0 ∷ forward 0 ∷ [];
    }
    -- sixteen senders, each a hundred further on than the one before; then the next number of each, the last sender's first
    ∷ record {
      come = map (λ (s : ℕ). of s (100 * s)) numbered ++ of 15 1501 ∷ map (λ (s : ℕ). of s (100 * s + 2)) numbered;
      gives = replicate 16 first ++ forward 0 ∷ replicate 15 (forward 1) ++ forward 0 ∷ [];
    }
    ∷ []
