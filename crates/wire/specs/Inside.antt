-- INSIDE: what only private contracts use. Definitions only; no promise of a public function rests on them.
use Rattle.std.specs.Prelude.{ℕ, ◌-◌, ◌<◌, ◌^◌, ℤ}
use Rattle.std.specs.Int.Signed.{mag}

-- z is a signed number of b bits: at least -2 ^ (b - 1) and below 2 ^ (b - 1)
abbrev pub Within : ℕ → ℤ → Type 0
Within b z = mag z < 2 ^ (b - 1)
