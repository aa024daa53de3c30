-- The difference of two sequence numbers and what it says. Definitions only.
use Rattle.std.specs.Prelude.{ℕ, zero, suc, ◌+◌, ◌-◌, ◌%◌, ◌^◌, ℤ, pos, negsuc, nat_le}
use Rattle.wire.specs.Choice.{pick}
use Rattle.wire.specs.Signed.{signed}
use Rattle.differences.specs.Limits.{most_late}
use Rattle.differences.specs.Noted.{Noted, forward, same, late, restarted}

-- d: new minus last, modulo 2^32, read as a signed 32-bit number
abbrev pub difference : ℕ → ℕ → ℤ
difference new last = signed 32 ((new + (2 ^ 32 - last)) % 2 ^ 32)

-- Of a number whose difference is d. Above 0: Forward with d - 1 missing. 0: Same. Below 0: Late by -d, to 1,024; by more, Restarted with the
-- new number. `negsuc n` is -(n + 1)
abbrev pub told : ℕ → ℤ → Noted
told number (pos zero) = same
told number (pos (suc n)) = forward n
told number (negsuc n) = pick (nat_le (suc n) most_late) (late (suc n)) (restarted number)
