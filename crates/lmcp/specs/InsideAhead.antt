-- What the walks that write suppose of what they are to write, and what they leave. Definitions only.
use Rattle.std.specs.Prelude.{◌≡◌, List, [], ℕ, ◌+◌, ◌≤◌, ◌<◌, length}
use Rattle.lmcp.specs.Run.{Run, got}
use Rattle.lmcp.specs.InsideEnds.{begun, Sofar}

abbrev pub Few0 : ℕ → ℕ → Type 0
Few0 to at = Unit

module _ {A B : Type 0} where
  -- W is not refused, and what it makes, of which the first goes to q, has room, which is a number of 64 bits
  pub record Ahead (W : Run A B) (q room : ℕ) : Type 0 where
    pub ys : List B
    pub rest : List A
    pub is : W ≡ got ys rest
    pub fits : q + length ys ≤ room
    pub small : room < 18446744073709551616

  -- all of W is laid from `to` on
  abbrev pub Lays : List A → List B → ℕ → Run A B → ℕ → ℕ → List B → Type 0
  Lays s out to W p q out' = Sofar Few0 (begun s out to) W (got []) p q out'
