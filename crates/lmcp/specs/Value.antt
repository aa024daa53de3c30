-- What a field's bytes stand for in a number list, and which numbers of a list a field takes. Definitions only.
use Rattle.std.specs.Prelude.{Bool, false, ◌&&◌, ℕ, ◌-◌, ◌*◌, ◌^◌, ltb, eqb, ℤ, pos, negsuc}
use Rattle.std.specs.Int.Signed.{mag}
use Rattle.wire.specs.Choice.{pick}
use Rattle.wire.specs.Signed.{signed}
use Rattle.lmcp.specs.Table.{signed_kind, bool_kind, char_kind}

-- ---- reading: v is the big-endian number of w bytes

-- what is wrong with it: 0 for nothing, else the number of the refusal
unfoldable pub fault : ℕ → ℕ → ℕ
fault k v = pick (eqb k bool_kind && ltb 1 v) 23 (pick (eqb k char_kind && ltb 127 v) 27 0)

-- the number of the list
unfoldable pub number_of : ℕ → ℕ → ℕ → ℤ
number_of k w v = pick (eqb k signed_kind) (signed (8 * w) v) (pos v)

-- ---- writing: z is a number of the list

-- from 0 up to n - 1
abbrev pub below : ℕ → ℤ → Bool
below n (pos k) = ltb k n
below n (negsuc k) = false

-- how many values a kind that is not signed has in w bytes
unfoldable pub values : ℕ → ℕ → ℕ
values k w = pick (eqb k bool_kind) 2 (pick (eqb k char_kind) 128 (2 ^ (8 * w)))

-- z is in the field's range; `mag` of -(n + 1) is n, so the signed range goes from -2 ^ (8w - 1) up to 2 ^ (8w - 1) - 1
unfoldable pub fits : ℕ → ℕ → ℤ → Bool
fits k w z = pick (eqb k signed_kind) (ltb (mag z) (2 ^ (8 * w - 1))) (below (values k w) z)

-- the refusal of a number that is not
unfoldable pub denial : ℕ → ℕ
denial k = pick (eqb k char_kind) 27 29
