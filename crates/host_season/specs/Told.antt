-- WHAT THE C HOST IS TOLD OF A STRETCH, for all that it may lend. Definitions only.
use Rattle.std.specs.Prelude.{◌≡◌, true, false, List, ℕ}
use Rattle.wire.specs.Overlay.{overlay}
use Rattle.wire.specs.Slices.{Buffer, short}
use Rattle.pit_marks.specs.declared.Sizes.{Sizes}
use Rattle.stretch.specs.Stop.{Stretch}
use Rattle.stretch.specs.Stretch.{Desk, CountsOn}
use Rattle.host_season.specs.Numbers.{stretch_length, stretch_numbers}

-- 13, and all that was lent stays
pub record Untouched (k : Desk) (told : Buffer) (answer : ℕ) (k' : Desk) : Type 0 where
  pub gave : answer ≡ 13
  pub stays : k' ≡ k
  pub list : told.after ≡ told.before

-- the call of `count_on`, and its numbers told: they stand at the start of the list, and the rest stays
pub record Counted (log : List ℕ) (place most : ℕ) (k : Desk) (had : Sizes) (told : Buffer) (answer : ℕ) (k' : Desk) : Type 0 where
  pub gave : answer ≡ 0
  pub stretch : Stretch
  pub counts : CountsOn log place most k had stretch k'
  pub list : told.after ≡ overlay told.before 0 (stretch_numbers stretch)

pub record StretchTold (log : List ℕ) (place most : ℕ) (k : Desk) (had : Sizes) (told : Buffer) (answer : ℕ) (k' : Desk) : Type 0 where
  pub untouched : short stretch_length told.before ≡ true → Untouched k told answer k'
  pub counted : short stretch_length told.before ≡ false → Counted log place most k had told answer k'
