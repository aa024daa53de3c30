-- INSIDE: what only private contracts use. Definitions only; no promise of a public function rests on them.
use Rattle.std.specs.Prelude.{◌≡◌, ℕ}
use Rattle.wire.specs.Overlay.{overlay}
use Rattle.receiver.specs.declared.Outcome.{Outcome}
use Rattle.wire.specs.Slices.{Buffer}
use Rattle.host_receiver.specs.Outcomes.{outcome_numbers}

-- the numbers and the name at the start of what was lent, whatever the answer
pub record Writes (sequence : ℕ) (o : Outcome) (told name : Buffer) (answer : ℕ) : Type 0 where
  pub gave : answer ≡ 0
  pub numbers : told.after ≡ overlay told.before 0 (outcome_numbers sequence o)
  pub bytes : name.after ≡ overlay name.before 0 o.name
