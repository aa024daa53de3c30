-- That the rows of a message are its elements, as the table has them (lmcp/specs/Spelled), in either version. Its proof is `rows_as-spelled` of proofs/Trips.
-- Definitions only.
use Rattle.std.specs.Prelude.{◌≡◌, Bool, List, [], ◌∷◌, ◌++◌, map, ℕ, ℤ, pos, get_or}
use Rattle.wire.specs.Choice.{pick}
use Rattle.wire.specs.Bytes.{Bytes}
use Rattle.lmcp.specs.Table.{second}
use Rattle.lmcp.specs.Run.{got}
use Rattle.lmcp.specs.Lists.{read_list}
use Rattle.lmcp.specs.Spelled.{Spot, nowhere, spot, Element, null, marked, Spelled}
use Rattle.sorted_set.specs.Lists.{gather}
use Rattle.count_rules.specs.Marks.{list_in}
use Rattle.mark_rows.specs.Placed.{placed_of}
use Rattle.mark_rows.specs.Rows.{rows_of}

-- an element's row: none for null; a place that is null, and the depth of version 1, are zeros behind a 0
abbrev pub spot_row : Spot → List ℤ
spot_row nowhere = pos 0 ∷ pos 0 ∷ pos 0 ∷ pos 0 ∷ []
spot_row (spot lat lon height) = pos 1 ∷ lat ∷ lon ∷ height ∷ []

abbrev pub element_row : Bool → Element → List ℤ
element_row two null = []
element_row two (marked pit sure at depth) = pos pit ∷ pos (pick sure 1 0) ∷ (spot_row at ++ pick two (pos 1 ∷ depth ∷ []) (pos 0 ∷ pos 0 ∷ []))

-- the rows are those of its elements, and their pits and sureness are what is counted
pub record RowsOfMessage (payload : List ℕ) (l : List ℤ) : Type 0 where
  pub spelled : Spelled l
  pub rows : rows_of (placed_of l) ≡ gather (element_row (second spelled.version)) spelled.elements
  pub counted : list_in payload ≡ record { tile = spelled.tile; marks = map (λ m. m.mark) (placed_of l) } ∷ []

-- of every accepted message whose root has type 5
abbrev pub RowsAsSpelled : Type 0
RowsAsSpelled = (payload : List ℕ) (l : List ℤ) (r : List ℕ) → Bytes payload → read_list payload ≡ got l r → get_or l 1 (pos 0) ≡ pos 5 → RowsOfMessage payload l
