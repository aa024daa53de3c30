-- Ranks: of the places of a run that are in use, which came first. Definitions only.
-- Each place has as many words; one of them says whether the place is in use (it is not 0), and one is its rank, 0 for the first.
use Rattle.std.specs.Prelude.{not, ◌&&◌, List, ℕ, zero, suc, ◌+◌, ◌-◌, ◌*◌, eqb, ltb, get_or, set}
use Rattle.wire.specs.Choice.{pick}
use Rattle.ranks.specs.declared.Ranked.{Ranked}

-- where place i begins
abbrev pub place_at : Ranked → ℕ → ℕ
place_at p i = p.first + p.stride * i

abbrev pub mark_of : List ℕ → Ranked → ℕ → ℕ
mark_of w p i = get_or w (place_at p i + p.mark) 0

abbrev pub rank_of : List ℕ → Ranked → ℕ → ℕ
rank_of w p i = get_or w (place_at p i + p.rank) 0

-- the rank x of a place with that mark, once rank t is given up: in use and above t, it falls by one
abbrev pub lower_rank_lem : ℕ → ℕ → ℕ → ℕ
lower_rank_lem mark t x = pick (not (eqb mark 0) && ltb t x) (x - 1) x

-- the first n places, once rank t is given up
unfoldable pub ranks_lowered : List ℕ → Ranked → ℕ → ℕ → List ℕ
ranks_lowered w p t zero = w
ranks_lowered w p t (suc n) =
    let v : List ℕ = ranks_lowered w p t n in
    set v (place_at p n + p.rank) (lower_rank_lem (mark_of v p n) t (rank_of v p n))

-- place i where its rank is below that of the one before, else that one
abbrev pub lower_ranked : List ℕ → Ranked → ℕ → ℕ → ℕ
lower_ranked w p i before = pick (ltb (rank_of w p i) (rank_of w p before)) i before

-- of the first n places the one with the lowest rank, on a tie the first
unfoldable pub lowest_ranked_lem : List ℕ → Ranked → ℕ → ℕ
lowest_ranked_lem w p zero = 0
lowest_ranked_lem w p (suc n) = lower_ranked w p n (lowest_ranked_lem w p n)
