-- Numbers and bytes as text, in ASCII. Definitions only.
use Rattle.std.specs.Prelude.{List, [], ◌∷◌, ◌++◌, ℕ, zero, suc, ◌+◌, ◌/◌, ◌%◌, ℤ, pos, negsuc, ltb}
use Rattle.wire.specs.Choice.{pick}

-- `0` to `9`, then `a` to `f`
abbrev pub digit : ℕ → ℕ
digit d = pick (ltb d 10) (48 + d) (87 + d)

-- a number below 10 is its digit; any other is the text of n / 10 and then its last digit. k digits are enough.
unfoldable pub decimal_by : ℕ → ℕ → List ℕ
decimal_by zero n = []
decimal_by (suc k) n = pick (ltb n 10) (digit n ∷ []) (decimal_by k (n / 10) ++ digit (n % 10) ∷ [])

-- n has at most n + 1 digits
unfoldable pub decimal : ℕ → List ℕ
decimal n = decimal_by (n + 1) n

-- a number below 0 has a minus in front; `negsuc n` is -(n + 1)
abbrev pub signed_decimal : ℤ → List ℕ
signed_decimal (pos n) = decimal n
signed_decimal (negsuc n) = 45 ∷ decimal (suc n)

-- two digits a byte
abbrev pub hex : List ℕ → List ℕ
hex [] = []
hex (b ∷ l) = digit (b / 16) ∷ digit (b % 16) ∷ hex l
