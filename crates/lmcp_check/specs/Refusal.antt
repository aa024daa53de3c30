-- What is wrong with what is read. Definitions only.
use Rattle.std.specs.Prelude.{ℕ, Result, Ok, Err}
use Rattle.refusals.specs.declared.Refusal.{Refusal}
use Rattle.refusals.specs.Numbers.{number_of}
use Rattle.lmcp.specs.Run.{got, refused}
use Rattle.lmcp.specs.Read.{Read}

-- 0 for nothing, else the number of the refusal
abbrev pub refusal_of : Read → ℕ
refusal_of (got zs r) = 0
refusal_of (refused n) = n

-- what the code says, in the papers' values
abbrev pub told : Result Unit Refusal → ℕ
told (Ok u) = 0
told (Err r) = number_of r
