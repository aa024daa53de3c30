-- A number in decimal, as an argument has it. Definitions only.
use Rattle.std.specs.Prelude.{Option as Maybe, Some, None, Bool, ◌&&◌, List, [], ◌∷◌, ℕ, ◌+◌, ◌-◌, ◌*◌, leb}
use Rattle.std.proofs.Math.Option.{Option, none, some}
use Rattle.wire.specs.Choice.{pick}

abbrev pub is_digit : ℕ → Bool
is_digit x = leb 48 x && leb x 57

-- one digit more behind v: none where x is no digit, or the number is above the most
unfoldable pub with_digit_lem : ℕ → ℕ → ℕ → Option ℕ
with_digit_lem most v x = pick (is_digit x && leb (10 * v + (x - 48)) most) (some (10 * v + (x - 48))) none

-- v and the digits behind it
abbrev pub onward : (ℕ → Option ℕ) → Option ℕ → Option ℕ
onward rest (some v) = rest v
onward rest none = none

unfoldable pub digits_from : ℕ → ℕ → List ℕ → Option ℕ
digits_from most v [] = some v
digits_from most v (x ∷ xs) = onward (λ n. digits_from most n xs) (with_digit_lem most v x)

-- one digit at least
abbrev pub number_in : ℕ → List ℕ → Option ℕ
number_in most [] = none
number_in most (x ∷ xs) = digits_from most 0 (x ∷ xs)

-- the code's answer
abbrev pub says : Maybe ℕ → Option ℕ
says (Some n) = some n
says None = none
