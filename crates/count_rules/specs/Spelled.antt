-- That a PitList is read as it is spelled (lmcp/specs/Spelled), in either version. Its proofs are `read_as-spelled`, `no_other` and `either-version` of
-- proofs/Spells. Definitions only.
use Rattle.std.specs.Prelude.{◌≡◌, List, [], ◌∷◌, ℕ, ℤ, pos, get_or}
use Rattle.lmcp.specs.Run.{got}
use Rattle.lmcp.specs.Lists.{read_list}
use Rattle.lmcp.specs.Spelled.{Element, null, marked, Spelled}
use Rattle.sorted_set.specs.Lists.{gather}
use Rattle.count_rules.specs.Marks.{Mark, PitList, list_in}

-- null marks are skipped; place and depth play no part
abbrev pub mark_of : Element → List Mark
mark_of null = []
mark_of (marked pit sure at depth) = record { pit = pit; sure = sure } ∷ []

-- the list of a tile and elements
abbrev pub list_with : ℕ → List Element → PitList
list_with tile es = record { tile = tile; marks = gather mark_of es }

pub record ReadAs (payload : List ℕ) (l : List ℤ) : Type 0 where
  pub spelled : Spelled l
  pub list : list_in payload ≡ list_with spelled.tile spelled.elements ∷ []

-- every accepted message whose root has type 5
abbrev pub ReadAsSpelled : Type 0
ReadAsSpelled = (payload : List ℕ) (l : List ℤ) (r : List ℕ) → read_list payload ≡ got l r → get_or l 1 (pos 0) ≡ pos 5 → ReadAs payload l

-- any other is no list
abbrev pub NoOther : Type 0
NoOther = (payload : List ℕ) (l : List ℤ) (r : List ℕ) → read_list payload ≡ got l r → (get_or l 1 (pos 0) ≡ pos 5 → ⊥) → list_in payload ≡ []

-- two messages of one tile whose elements mark the same pits, surely or not, count the same, whatever their versions, places and depths
abbrev pub EitherVersion : Type 0
EitherVersion = (payload payload' : List ℕ) (l l' : List ℤ) → (a : ReadAs payload l) (b : ReadAs payload' l')
    → a.spelled.tile ≡ b.spelled.tile → gather mark_of a.spelled.elements ≡ gather mark_of b.spelled.elements → list_in payload ≡ list_in payload'
