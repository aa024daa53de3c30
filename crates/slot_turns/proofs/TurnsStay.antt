-- Turns that stay. Assumes nothing.
use Rattle.wire.proofs.Basics.{◌∙◌, ◌≡◌, ap, refl, ℕ, ◌≤◌, ◌+◌, ◌<◌, suc, zero, List, [], ◌∷◌, not, get_or, set, eqb, le-ltb, arith}
use Rattle.wire.proofs.Choices.{and-false}
use Rattle.ranks.specs.declared.Ranked.{Ranked}
use Rattle.ranks.specs.Ranks.{place_at, mark_of, rank_of, lower_rank_lem, ranks_lowered}

set_self : (w : List ℕ) (k : ℕ) → set w k (get_or w k 0) ≡ w
set_self [] k = refl
set_self (x ∷ w) zero = refl
set_self (x ∷ w) (suc k) = ap (λ (v : List ℕ). x ∷ v) (set_self w k)

-- where no rank is above t, none falls
pub lowered-still : (w : List ℕ) (p : Ranked) (t n : ℕ) → ((i : ℕ) → i < n → rank_of w p i ≤ t) → ranks_lowered w p t n ≡ w
unfolding ranks_lowered
lowered-still w p t zero h = refl
lowered-still w p t (suc n) h =
    ap (λ (v : List ℕ). set v (place_at p n + p.rank) (lower_rank_lem (mark_of v p n) t (rank_of v p n))) (lowered-still w p t n (λ i l. h i (omega arith)))
    ∙ ap (set w (place_at p n + p.rank)) (rw (le-ltb t (rank_of w p n) (h n (omega arith)), and-false (not (eqb (mark_of w p n) 0))))
    ∙ set_self w (place_at p n + p.rank)
