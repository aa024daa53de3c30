-- What is taken from the front of some bytes, and what follows it; or the refusal. Definitions only.
use Rattle.std.specs.Prelude.{List, ℕ}

pub data Taken (X : Type 0) : Type 0 where
  taken : X → List ℕ → Taken X
  refused : ℕ → Taken X

-- the next is taken from what follows; a refusal ends it
abbrev pub follow : {X Y : Type 0} → Taken X → (X → List ℕ → Taken Y) → Taken Y
follow (taken x rest) f = f x rest
follow (refused n) f = refused n
