-- The tile lines, from the sets. Definitions only.
use Rattle.std.specs.Prelude.{◌≡◌, List, ℕ, suc, ◌-◌, ◌%◌, ltb, get_or}
use Rattle.wire.specs.Choice.{pick}
use Rattle.wire.specs.Overlay.{overlay}
use Rattle.wire.specs.Slices.{Buffer}
use Rattle.words.specs.Builds.{build}
use Rattle.sorted_set.specs.Halving.{held, rank_in}
use Rattle.count_rules.specs.Keys.{span, pit_key}
use Rattle.pit_marks.specs.declared.Sizes.{Sizes}
use Rattle.pit_marks.specs.Sets.{Sets}

-- where tile t's pits end among the first n: where the next tile's begin, or at the end
abbrev pub end_of : List ℕ → ℕ → ℕ → ℕ
end_of w n t = pick (ltb (suc t) span) (rank_in w n (pit_key (suc t) 0)) (held w n)

-- how many of them are tile t's
unfoldable pub pits_in : List ℕ → ℕ → ℕ → ℕ
pits_in w n t = end_of w n (t % span) - rank_in w n (pit_key (t % span) 0)

-- the number, the pits and the sure pits of each tile, at the start of three outputs
pub record Lays (x : Sets) (had : Sizes) (tile pit certain : Buffer) : Type 0 where
  pub numbers : tile.after ≡ overlay tile.before 0 (build had.tiles (λ i. get_or x.tiles i 0))
  pub pits-of : pit.after ≡ overlay pit.before 0 (build had.tiles (λ i. pits_in x.pits had.pits (get_or x.tiles i 0)))
  pub sure-of : certain.after ≡ overlay certain.before 0 (build had.tiles (λ i. pits_in x.sure had.sure (get_or x.tiles i 0)))
