-- MARKS AS ROWS of eight numbers, in the order of the header, at the start of a lent list. Definitions only.
use Rattle.std.specs.Prelude.{◌≡◌, Bool, not, List, [], ◌∷◌, ◌++◌, ℕ, ◌*◌, ◌%◌, ltb, eqb, ℤ, pos, length, Option, Some, None, Result, Ok, Err}
use Rattle.std.proofs.lemmas.List.Edits.{sets}
use Rattle.wire.specs.Choice.{pick, ◌when◌else◌}
use Rattle.lmcp.specs.Spelled.{Spot, nowhere, spot}
use Rattle.sorted_set.specs.Lists.{gather}
use Rattle.count_rules.specs.Marks.{at}
use Rattle.count_rules.specs.Keys.{span}
use Rattle.refusals.specs.declared.Refusal.{Refusal}
use Rattle.refusals.specs.Numbers.{number_of}
use Rattle.mark_rows.specs.declared.Marks.{Marks}
use Rattle.mark_rows.specs.Placed.{Depth, unmeasured, measured, PlacedMark, placed_of}

abbrev pub flag : Bool → ℤ
flag b = pos (pick b 1 0)

-- whether it has a place, lat, lon, height
abbrev pub place_numbers_lem : Spot → List ℤ
place_numbers_lem nowhere = pos 0 ∷ pos 0 ∷ pos 0 ∷ pos 0 ∷ []
place_numbers_lem (spot lat lon height) = pos 1 ∷ lat ∷ lon ∷ height ∷ []

-- whether it has a depth, and the depth
abbrev pub depth_numbers : Depth → List ℤ
depth_numbers unmeasured = pos 0 ∷ pos 0 ∷ []
depth_numbers (measured d) = pos 1 ∷ d ∷ []

-- pits are uint32
abbrev pub row_of : PlacedMark → List ℤ
row_of m = pos (m.mark.pit % span) ∷ flag m.mark.sure ∷ (place_numbers_lem m.place ++ depth_numbers m.depth)

abbrev pub rows_of : List PlacedMark → List ℤ
rows_of = gather row_of

-- the type of the root stands behind the version
abbrev pub is_list_lem : List ℤ → Bool
is_list_lem l = eqb (at l 1) 5

-- the answer in the papers' values: the tile of the list and how many rows there are; that the numbers are not those of a PitList; or the number of
-- the refusal
pub data Rows : Type 0 where
  Of : ℕ → ℕ → Rows
  Other : Rows
  Refused : ℕ → Rows

-- what the code says
abbrev pub rows_told : Result (Option Marks) Refusal → Rows
rows_told (Ok (Some m)) = Of m.tile m.rows
rows_told (Ok None) = Other
rows_told (Err r) = Refused (number_of r)

-- no room for so many rows
abbrev pub lacks : List ℤ → List ℤ → Bool
lacks l rows = ltb (length rows) (8 * length (placed_of l))

unfoldable pub rows_given : List ℤ → List ℤ → Rows
rows_given l rows =
    Other when not (is_list_lem l) else
    Refused 13 when lacks l rows else
    Of (at l 2) (length (placed_of l))

unfoldable pub rows_left : List ℤ → List ℤ → List ℤ
rows_left l rows =
    rows when not (is_list_lem l) else
    rows when lacks l rows else
    sets rows 0 (rows_of (placed_of l))

-- THE CONTRACT: the answer, and the rows then
pub record GivesRows (l rows : List ℤ) (r : Rows) (rows' : List ℤ) : Type 0 where
  pub gave : r ≡ rows_given l rows
  pub left : rows' ≡ rows_left l rows
