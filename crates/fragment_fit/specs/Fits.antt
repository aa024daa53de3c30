-- When a fragment fits among those held. Definitions only.
use Rattle.std.specs.Prelude.{Bool, not, ◌||◌, List, ℕ, ◌+◌, ◌*◌, get_or, ltb}
use Rattle.wire.specs.Choice.{pick}
use Rattle.steps.specs.Held.{is_held}
use Rattle.steps.specs.Receive.{in_order_lem}

-- fragment k from o on d bytes, and j from p on e bytes
abbrev pub agrees_at : ℕ → ℕ → ℕ → ℕ → ℕ → ℕ → Bool
agrees_at k o d j p e = pick (ltb j k) (in_order_lem j (p + e) k o) (in_order_lem k (o + d) j p)

-- it agrees with fragment j where that is held; the slot's ledger has offset and length of each
abbrev pub fits_in_lem : List ℕ → List ℕ → ℕ → ℕ → ℕ → ℕ → Bool
fits_in_lem h l k o d j = not (is_held h j) || agrees_at k o d j (get_or l (2 * j) 0) (get_or l (2 * j + 1) 0)
