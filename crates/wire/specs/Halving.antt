-- A search by halving, over any test of a place. Definitions only.
use Rattle.std.specs.Prelude.{Bool, ℕ, zero, suc, ◌+◌, ◌-◌, ◌/◌, ltb}
use Rattle.wire.specs.Choice.{pick}

abbrev pub middle : ℕ → ℕ → ℕ
middle low high = low + (high - low) / 2

-- between low and high, the half where a test changes from true to false is looked at next; as many turns as there are places are enough
unfoldable pub halve : ℕ → (ℕ → Bool) → ℕ → ℕ → ℕ
halve zero p low high = low
halve (suc k) p low high =
    pick (ltb low high)
    (halve k p (pick (p (middle low high)) (middle low high + 1) low) (pick (p (middle low high)) high (middle low high)))
    low
