-- Why a stretch stopped, in the paper's values: as many entries were taken as were asked for, or the log ended, or the log's own refusal by its number, or 13, 60 or
-- 61 by what is lent; and what is told of the stretch. Definitions only.
use Rattle.std.specs.Prelude.{ℕ}
use Rattle.pit_marks.specs.declared.Sizes.{Sizes}
use Rattle.stretch.specs.declared.Totals.{Totals}

pub data Stop : Type 0 where
  Taken : Stop
  End : Stop
  Broken : ℕ → Stop
  Refused : ℕ → Stop

pub record Stretch : Type 0 where
  pub stop : Stop
  pub place : ℕ
  pub entries : ℕ
  pub totals : Totals
  pub sizes : Sizes
