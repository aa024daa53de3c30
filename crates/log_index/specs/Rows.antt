-- The entries of an index: document 02, L11. "Sender, sequence and the place of its first byte, sorted by sender, then sequence, then place."
-- An index entry is called a row here, so that an entry is always the log's. Definitions only.
use Rattle.std.specs.Prelude.{Bool, ◌&&◌, List, [], ◌∷◌, ℕ, eqb, ltb}
use Rattle.std.proofs.Math.Option.{Option, none, some}
use Rattle.wire.specs.Choice.{pick, ◌when◌else◌}

pub record Row : Type 0 where
  pub sender : ℕ
  pub sequence : ℕ
  pub place : ℕ

abbrev pub row_of : ℕ → ℕ → ℕ → Row
row_of s q p = record { sender = s; sequence = q; place = p }

abbrev pub earlier_of_sender : Row → Row → Bool
earlier_of_sender a b =
    ltb a.place b.place when eqb a.sequence b.sequence else
    ltb a.sequence b.sequence

-- by sender, then sequence, then place
unfoldable pub earlier : Row → Row → Bool
earlier a b =
    earlier_of_sender a b when eqb a.sender b.sender else
    ltb a.sender b.sender

-- a row among sorted ones
unfoldable pub put : Row → List Row → List Row
put r [] = r ∷ []
put r (x ∷ xs) = pick (earlier x r) (x ∷ put r xs) (r ∷ x ∷ xs)

unfoldable pub sorted : List Row → List Row
sorted [] = []
sorted (r ∷ rs) = put r (sorted rs)

-- ---- a key: sender and sequence

abbrev pub is_of : ℕ → ℕ → Row → Bool
is_of s q r = eqb r.sender s && eqb r.sequence q

-- the place of the first row of a key
unfoldable pub first_of : ℕ → ℕ → List Row → Option ℕ
first_of s q [] = none
first_of s q (r ∷ rs) = pick (is_of s q r) (some r.place) (first_of s q rs)
