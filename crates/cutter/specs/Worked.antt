-- Worked cases of the cutter, both sides of a limit, in the paper's own numbers. Definitions only.
use Rattle.std.specs.Prelude.{List, [], ◌∷◌, ℕ}
use Rattle.wire.specs.Text.{ascii}
use Rattle.cutter.specs.Cut.{Answer, gives, refused, plan_of, cut_answer}

-- the name TILE, and one that is no name
abbrev pub tile : List ℕ
tile = ascii "TILE"

abbrev pub bad : List ℕ
bad = 0x54 ∷ 127 ∷ []

-- TILE with p bytes, cut for M 96, datagram k asked for, with room for r bytes
abbrev pub tile_of : ℕ → ℕ → ℕ → Answer
tile_of p k r = plan_of 4 p 96 k r

pub record Case : Type 0 where
  pub asked : Answer
  pub answered : Answer

abbrev pub case : Answer → Answer → Case
case a b = record { asked = a; answered = b }

abbrev pub cases : List Case
cases =
    -- M 95, 96, 65,507, 65,508
    case (cut_answer tile [] 95 0 96) (refused 10)
    ∷ case (cut_answer tile [] 96 0 96) (gives 1 13)
    ∷ case (cut_answer tile [] 65_507 0 96) (gives 1 13)
    ∷ case (cut_answer tile [] 65_508 0 96) (refused 10)
    -- M comes before the name
    ∷ case (cut_answer bad [] 95 0 96) (refused 10)
    ∷ case (cut_answer bad [] 96 9 0) (refused 4)
    -- P comes before the number of fragments, that before the one asked for, and that before the room
    ∷ case (tile_of 1_048_576 9_999 0) (refused 11)
    ∷ case (tile_of 1_048_577 9_999 0) (refused 6)
    ∷ case (tile_of 77_820 1_024 0) (refused 11)
    ∷ case (tile_of 77_819 1_024 0) (refused 12)
    ∷ case (tile_of 77_819 1_023 0) (refused 13)
    -- 1,024 fragments: the last has 96 bytes, and room for 95 is too short
    ∷ case (tile_of 77_819 1_023 95) (refused 13)
    ∷ case (tile_of 77_819 1_023 96) (gives 1_024 96)
    -- m8: small up to 83 bytes, then two fragments up to 147, then three
    ∷ case (tile_of 83 0 96) (gives 1 96)
    ∷ case (tile_of 84 0 96) (gives 2 96)
    ∷ case (tile_of 84 1 96) (gives 2 33)
    ∷ case (tile_of 147 1 96) (gives 2 96)
    ∷ case (tile_of 148 2 96) (gives 3 21)
    ∷ []
