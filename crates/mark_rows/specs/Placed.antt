-- A MARK WITH ITS PLACE AND ITS DEPTH, from the numbers that the reader makes of a message, in either version. Beside count_rules' `Marks`, which has what is
-- counted: the pit, and whether it is sure. Definitions only.
use Rattle.std.specs.Prelude.{Bool, List, [], ◌++◌, map, ℕ, zero, suc, eqb, ℤ, pos, length, get_or, drop}
use Rattle.wire.specs.Choice.{pick}
use Rattle.lmcp.specs.Table.{second}
use Rattle.lmcp.specs.Spelled.{Spot, nowhere, spot}
use Rattle.count_rules.specs.Marks.{Mark, at, mark_length, mark_at}

-- a mark of version 1 has no depth
pub data Depth : Type 0 where
  unmeasured : Depth
  measured : ℤ → Depth

pub record PlacedMark : Type 0 where
  pub mark : Mark
  pub place : Spot
  pub depth : Depth

-- number i of a list, with its sign; 0 past its end
abbrev pub signed_at : List ℤ → ℕ → ℤ
signed_at l i = get_or l i (pos 0)

-- A mark is 0 for null; else 4, pit, sure, its place, which is 0 for null and else 2, lat, lon, height, and in version 2 its depth.
abbrev pub place_at : List ℤ → Spot
place_at l = pick (eqb (at l 3) 0) nowhere (spot (signed_at l 4) (signed_at l 5) (signed_at l 6))

abbrev pub depth_at : Bool → List ℤ → Depth
depth_at two l = pick two (measured (signed_at l (pick (eqb (at l 3) 0) 4 7))) unmeasured

abbrev pub placed_by : Bool → List ℤ → Mark → PlacedMark
placed_by two l m = record { mark = m; place = place_at l; depth = depth_at two l }

-- the mark that is counted there, if any
unfoldable pub placed_at : Bool → List ℤ → List PlacedMark
placed_at two l = map (placed_by two l) (mark_at l)

-- of n elements
unfoldable pub placed_in : Bool → ℕ → List ℤ → List PlacedMark
placed_in two zero l = []
placed_in two (suc n) l = placed_at two l ++ placed_in two n (drop (mark_length two l) l)

-- those of a list, behind its version, type, tile and count, to the end of the numbers: each element takes one at least
abbrev pub placed_of : List ℤ → List PlacedMark
placed_of l = placed_in (second (at l 0)) (length (drop 4 l)) (drop 4 l)
