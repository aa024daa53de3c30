-- INSIDE: what only private contracts use. Definitions only; no promise of a public function rests on them.
use Rattle.std.specs.Prelude.{ℕ, ◌^◌, ◌<◌, ◌-◌, ◌≤◌}
use Rattle.log_append.specs.Writes.{Answer, wrote, refused}

-- what was written at the place has a length of 32 bits
abbrev pub Spans : ℕ → Answer → Type 0
Spans at (wrote next) = (at ≤ next) × (next - at < 2 ^ 32)
Spans at (refused n) = Unit
