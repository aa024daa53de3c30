-- How an accepted PitList stands in a number list, in either version: what whoever counts pits may rely on. Its proof is `pit-list-spelled`
-- of proofs/Spells. Definitions only.
use Rattle.std.specs.Prelude.{◌≡◌, Bool, true, List, [], ◌∷◌, ◌++◌, ℕ, ℤ, pos, length}
use Rattle.wire.specs.Choice.{pick}
use Rattle.lmcp.specs.Table.{second}
use Rattle.lmcp.specs.Lists.{is_version_lem}

-- a mark's place: null, or lat, lon, height
pub data Spot : Type 0 where
  nowhere : Spot
  spot : ℤ → ℤ → ℤ → Spot

-- an element of a PitList: null, or a mark of a pit, sure or not, at a place, with a depth, which version 1 does not have
pub data Element : Type 0 where
  null : Element
  marked : ℕ → Bool → Spot → ℤ → Element

-- an object is its type, 0 for null, then its fields
abbrev pub spell_spot : Spot → List ℤ
spell_spot nowhere = pos 0 ∷ []
spell_spot (spot lat lon height) = pos 2 ∷ lat ∷ lon ∷ height ∷ []

abbrev pub spell_element : Bool → Element → List ℤ
spell_element two null = pos 0 ∷ []
spell_element two (marked pit sure at depth) = pos 4 ∷ pos pit ∷ pos (pick sure 1 0) ∷ (spell_spot at ++ pick two (depth ∷ []) [])

abbrev pub spell_all : Bool → List Element → List ℤ
spell_all two [] = []
spell_all two (e ∷ es) = spell_element two e ++ spell_all two es

-- the version, type 5, the tile, and the marks behind their count
abbrev pub spell_list : ℕ → ℕ → List Element → List ℤ
spell_list v tile es = pos v ∷ pos 5 ∷ pos tile ∷ pos (length es) ∷ spell_all (second v) es

pub record Spelled (l : List ℤ) : Type 0 where
  pub version : ℕ
  pub one-or-two : is_version_lem (pos version) ≡ true
  pub tile : ℕ
  pub elements : List Element
  pub numbers : l ≡ spell_list version tile elements

-- an element's pit keeps to S
abbrev pub PitKeeps : (ℕ → Type 0) → Element → Type 0
PitKeeps S null = Unit {0}
PitKeeps S (marked pit sure at depth) = S pit

abbrev pub PitsKeep : (ℕ → Type 0) → List Element → Type 0
PitsKeep S [] = Unit {0}
PitsKeep S (e ∷ es) = PitKeeps S e × PitsKeep S es

-- so spelled, and its tile and its pits keep to S
pub record SpelledBy (S : ℕ → Type 0) (l : List ℤ) : Type 0 where
  pub spelled : Spelled l
  pub tile : S spelled.tile
  pub pits : PitsKeep S spelled.elements
