-- The number of document 01 that bounds a name. Nothing else in any specs/ writes it out.
use Rattle.std.specs.Prelude.{ℕ}

-- the longest name
abbrev pub max_name : ℕ
max_name = 63
