-- The contracts of the walk that writes: what it reads is in order. Definitions only.
use Rattle.std.specs.Prelude.{◌≡◌, Bool, List, [], ◌∷◌, ℕ, zero, suc, ℤ, pos, length, drop, leb, eqb}
use Rattle.wire.specs.Choice.{◌when◌else◌}
use Rattle.wire.specs.Bytes.{be}
use Rattle.wire.specs.Signed.{signed}
use Rattle.lmcp.specs.Run.{got}
use Rattle.lmcp.specs.Read.{Read}
use Rattle.lmcp.specs.InsideAhead.{Ahead as AheadIn}

-- W is not refused, and the place after its numbers, of which the first goes to q, is one that can be counted
abbrev pub Ahead : Read → ℕ → Type 0
Ahead W q = AheadIn W q 4294967296

-- the number of a code at the front of bytes
abbrev pub coded : ℕ → List ℕ → ℤ
coded c l =
    pos (be 1 l) when eqb c 0 else
    pos (be 2 l) when eqb c 1 else
    pos (be 4 l) when eqb c 2 else
    signed 16 (be 2 l) when eqb c 3 else
    signed 32 (be 4 l) when eqb c 4 else
    signed 64 (be 8 l)

-- the numbers of n bytes
abbrev pub bytes_as_numbers : ℕ → List ℕ → List ℤ
bytes_as_numbers zero l = []
bytes_as_numbers (suc n) l = pos (be 1 l) ∷ bytes_as_numbers n (drop 1 l)

-- whether there is room for the numbers of W behind the first
abbrev pub Rooms : Read → ℕ → Bool → Type 0
Rooms W room r = (zs : List ℤ) (rest : List ℕ) → W ≡ got zs rest → r ≡ leb (suc (length zs)) room
