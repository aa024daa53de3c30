-- INSIDE: bits of a word. Definitions only; no promise of a public function rests on them.
use Rattle.std.specs.Prelude.{Bool, ℕ, ◌/◌, ◌%◌, ◌^◌, eqb}

-- bit b is set
abbrev pub bit_in : ℕ → ℕ → Bool
bit_in w b = eqb (w / 2 ^ b % 2) 1
