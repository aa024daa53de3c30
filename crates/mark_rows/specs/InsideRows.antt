-- What the walk over a list's elements lays. Definitions only.
use Rattle.std.specs.Prelude.{◌≡◌, Bool, not, List, [], ◌∷◌, ℕ, ◌+◌, ◌*◌, ◌%◌, eqb, ℤ, pos, length, drop}
use Rattle.std.proofs.lemmas.List.Edits.{sets}
use Rattle.wire.specs.Choice.{pick}
use Rattle.count_rules.specs.Marks.{at}
use Rattle.count_rules.specs.Keys.{span}
use Rattle.mark_rows.specs.Placed.{PlacedMark, signed_at, placed_in}
use Rattle.mark_rows.specs.Rows.{flag, rows_of}

-- the numbers of a row, as the code takes them
abbrev pub row_at : Bool → List ℤ → List ℤ
row_at two l =
    let placed = not (eqb (at l 3) 0) in
    pos (at l 1 % span) ∷ flag (not (eqb (at l 2) 0)) ∷ flag placed ∷ pick placed (signed_at l 4) (pos 0) ∷ pick placed (signed_at l 5) (pos 0)
    ∷ pick placed (signed_at l 6) (pos 0) ∷ flag two ∷ pick two (signed_at l (pick placed 7 4)) (pos 0) ∷ []

-- the marks from a place on
abbrev pub placed_from : Bool → List ℤ → ℕ → List PlacedMark
placed_from two l place = placed_in two (length (drop place l)) (drop place l)

-- these marks as rows from q on, and the place behind them
pub record LaysRows (ms : List PlacedMark) (rows : List ℤ) (q : ℕ) (rows' : List ℤ) (r : ℕ) : Type 0 where
  pub laid : rows' ≡ sets rows q (rows_of ms)
  pub next : r ≡ q + 8 * length ms
