-- What the loop lays. Definitions only.
use Rattle.std.specs.Prelude.{◌≡◌, List, ℕ, ◌%◌, length, get_or}
use Rattle.wire.specs.Choice.{pick}
use Rattle.wire.specs.Overlay.{overlay}
use Rattle.wire.specs.Slices.{Buffer}
use Rattle.words.specs.Builds.{build}
use Rattle.sorted_set.specs.Halving.{is_there}
use Rattle.count_rules.specs.Keys.{span}

-- words without their tile, and whether each stands among the sure ones
pub record LaysPits (w : List ℕ) (sure : List ℕ) (m : ℕ) (number certain : Buffer) : Type 0 where
  pub numbers : number.after ≡ overlay number.before 0 (build (length w) (λ i. get_or w i 0 % span))
  pub sureness : certain.after ≡ overlay certain.before 0 (build (length w) (λ i. pick (is_there sure m (get_or w i 0)) 1 0))
