-- An accepted PitList: its tile and its marks, from the numbers that the reader makes of a message, in either version. Definitions only.
use Rattle.std.specs.Prelude.{Bool, not, List, [], ◌∷◌, ◌++◌, ℕ, zero, suc, ◌+◌, eqb, ℤ, pos, get_or, drop}
use Rattle.std.specs.Int.Signed.{mag}
use Rattle.wire.specs.Choice.{pick}
use Rattle.lmcp.specs.Run.{got, refused}
use Rattle.lmcp.specs.Table.{second}
use Rattle.lmcp.specs.Read.{Read}
use Rattle.lmcp.specs.Lists.{read_list}

pub record Mark : Type 0 where
  pub pit : ℕ
  pub sure : Bool

pub record PitList : Type 0 where
  pub tile : ℕ
  pub marks : List Mark

-- number i of a list, 0 past its end; versions, types, counts, tiles, pits and bools are never negative
abbrev pub at : List ℤ → ℕ → ℕ
at l i = mag (get_or l i (pos 0))

-- A mark is 0 for null; else 4, pit, sure, its place, which is 0 for null and else 2, lat, lon, height, and in version 2 its depth.
unfoldable pub mark_length : Bool → List ℤ → ℕ
mark_length two l = pick (eqb (at l 0) 0) 1 (pick (eqb (at l 3) 0) 4 7 + pick two 1 0)

-- a null mark is skipped
unfoldable pub mark_at : List ℤ → List Mark
mark_at l = pick (eqb (at l 0) 0) [] (record { pit = at l 1; sure = not (eqb (at l 2) 0) } ∷ [])

-- the marks of n elements
unfoldable pub marks_in : Bool → ℕ → List ℤ → List Mark
marks_in two zero l = []
marks_in two (suc n) l = mark_at l ++ marks_in two n (drop (mark_length two l) l)

-- the version, type 5, tile, the count of marks, the marks
unfoldable pub pit_list_of : List ℤ → List PitList
pit_list_of l = pick (eqb (at l 1) 5) (record { tile = at l 2; marks = marks_in (second (at l 0)) (at l 3) (drop 4 l) } ∷ []) []

unfoldable pub list_read : Read → List PitList
list_read (got l r) = pit_list_of l
list_read (refused n) = []

-- the PitList that a payload is, or none
unfoldable pub list_in : List ℕ → List PitList
list_in payload = list_read (read_list payload)
