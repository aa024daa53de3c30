-- Text written at a place of a buffer. Definition only.
use Rattle.std.specs.Prelude.{◌≡◌, List, ℕ, ◌+◌, min, length}
use Rattle.wire.specs.Overlay.{overlay}

-- the text stands at the place, the rest stays, what has no room is not written; r is the place after it, or the buffer's end
pub record Put (out : List ℕ) (at : ℕ) (text left : List ℕ) (r : ℕ) : Type 0 where
  pub wrote : left ≡ overlay out at text
  pub next : r ≡ min (at + length text) (length out)
