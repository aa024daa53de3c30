-- INSIDE: places that are freed, one after another. Definitions only; no promise rests on them.
use Rattle.std.specs.Prelude.{List, ℕ, zero, suc, eqb, get_or, set}
use Rattle.wire.specs.Choice.{pick}
use Rattle.memory.specs.Words.{sender_at, used_at}

-- place i is freed where it is the sender's, and so are the first n
abbrev pub freed_at : List ℕ → ℕ → ℕ → List ℕ
freed_at w s i = pick (eqb (get_or w (sender_at i) 0) s) (set w (used_at i) 0) w

unfoldable pub freed_in : List ℕ → ℕ → ℕ → List ℕ
freed_in w s zero = w
freed_in w s (suc n) = freed_at (freed_in w s n) s n
