-- The struct's lines are the outcome's: the zeros past the last tile are not written. Assumes nothing.
use Rattle.wire.proofs.Basics.{◌≡◌, ap, refl, ℕ, suc, zero, List, [], ◌∷◌, ◌++◌, map, length, get_or}
use Rattle.count_rules.specs.Count.{Outcome, reported, no_report}
use Rattle.count.specs.Counts.{zeros, padded, counted}
use Rattle.count_lines.specs.Lines.{total_lines, refused_lines, lists_line, tile_lines}
use Rattle.count_pits.specs.Lines.{outcome_lines, count_lines_lem}

zero-at : (k i : ℕ) → get_or (zeros k) i 0 ≡ 0
zero-at zero i = refl
zero-at (suc k) zero = refl
zero-at (suc k) (suc i) = zero-at k i

past-zero : (l : List ℕ) (k i : ℕ) → get_or (l ++ zeros k) i 0 ≡ get_or l i 0
past-zero [] k i = zero-at k i
past-zero (x ∷ l) k zero = refl
past-zero (x ∷ l) k (suc i) = past-zero l k i

-- the columns with their zeros
module _ (a b c : List ℕ) where
  padded-lines : (n : ℕ) → tile_lines n (padded a) (padded b) (padded c) ≡ tile_lines n a b c
  padded-lines zero = refl
  padded-lines (suc n) = rw (padded-lines n, past-zero a _ n, past-zero b _ n, past-zero c _ n)

pub same_lines : (o : Outcome) → count_lines_lem (counted o) ≡ outcome_lines o
same_lines (reported r) =
    ap
    (λ (l : List ℕ). total_lines r.entries r.kept r.repeated r.delivered ++ refused_lines (length r.refused) r.refused ++ lists_line r.lists ++ l)
    (padded-lines (map (λ x. x.tile) r.lines) (map (λ x. x.pits) r.lines) (map (λ x. x.sure) r.lines) (length r.lines))
same_lines (no_report n) = refl
