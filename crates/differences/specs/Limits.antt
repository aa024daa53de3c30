-- How late a number may be. Definitions only.
use Rattle.std.specs.Prelude.{ℕ}

-- Late by 1 to 1,024 stays; by more it is a restart
abbrev pub most_late : ℕ
most_late = 1_024
