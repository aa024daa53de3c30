-- INSIDE: what a search of the code finds, as Search's `first` says it. Definitions only; no promise of a public function rests on them.
use Rattle.std.specs.Prelude.{Option as Maybe, Some, None, ℕ}
use Rattle.std.proofs.Math.Option.{Option, none, some}

-- what the code finds, or does not
abbrev pub option_of : Maybe ℕ → Option ℕ
option_of (Some i) = some i
option_of None = none
