-- WHAT THE C HOST IS TOLD OF THE TILE LINES, for all that it may lend. Definitions only.
use Rattle.std.specs.Prelude.{◌≡◌, Bool, true, false, ◌||◌, ℕ, ltb, length}
use Rattle.wire.specs.Slices.{Buffer}
use Rattle.pit_marks.specs.declared.Sizes.{Sizes}
use Rattle.pit_marks.specs.Sets.{Sets, held_in}
use Rattle.pit_marks.specs.Lines.{Lays}

-- one of the three has no room for the tiles
abbrev pub lacking : Buffer → Buffer → Buffer → ℕ → Bool
lacking tile pit certain n = ltb (length tile.before) n || (ltb (length pit.before) n || ltb (length certain.before) n)

pub record Unwritten (tile pit certain : Buffer) (answer : ℕ) : Type 0 where
  pub gave : answer ≡ 13
  pub tiles : tile.after ≡ tile.before
  pub pits : pit.after ≡ pit.before
  pub sure : certain.after ≡ certain.before

pub record Written (x : Sets) (had : Sizes) (tile pit certain : Buffer) (answer : ℕ) : Type 0 where
  pub gave : answer ≡ 0
  pub lays : Lays x had tile pit certain

-- sizes above what is lent count as what is lent
pub record LinesTold (x : Sets) (had : Sizes) (tile pit certain : Buffer) (answer : ℕ) : Type 0 where
  pub unwritten : lacking tile pit certain (held_in x had).tiles ≡ true → Unwritten tile pit certain answer
  pub written : lacking tile pit certain (held_in x had).tiles ≡ false → Written x (held_in x had) tile pit certain answer
