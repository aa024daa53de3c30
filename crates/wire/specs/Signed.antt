-- Signed numbers of b bits and their bits, in two's complement; b is at least 1. `negsuc n` is -(n + 1). Definitions only.
use Rattle.std.specs.Prelude.{ℕ, suc, ◌-◌, ◌^◌, ℤ, pos, negsuc, ltb}
use Rattle.wire.specs.Choice.{pick}

-- the signed number of b bits whose bits are u: u below half the power, and otherwise u less the power
abbrev pub signed : ℕ → ℕ → ℤ
signed b u = pick (ltb u (2 ^ (b - 1))) (pos u) (negsuc (2 ^ b - suc u))

-- the bits of z
abbrev pub unsigned : ℕ → ℤ → ℕ
unsigned b (pos n) = n
unsigned b (negsuc n) = 2 ^ b - suc n
