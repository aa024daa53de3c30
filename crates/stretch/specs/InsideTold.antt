-- INSIDE: what stands against a list, as private contracts say it. Definition only; no promise rests on it.
use Rattle.std.specs.Prelude.{ℕ, Result, Ok, Err}
use Rattle.refusals.specs.declared.Refusal.{Refusal}
use Rattle.refusals.specs.Numbers.{number_of}

-- 0 for nothing
abbrev pub fault_told : Result (Unit {0}) Refusal → ℕ
fault_told (Ok u) = 0
fault_told (Err r) = number_of r
