-- Worked roots, beside m11 to m13 of the marked table: signs, types, bools, chars, a header that is cut, both sides of the
-- depth, and both versions. Definitions only.
use Rattle.std.specs.Prelude.{List, [], ◌∷◌, ◌++◌, ℕ, zero, suc, ℤ, pos, negsuc}
use Rattle.wire.specs.Text.{ascii}
use Rattle.lmcp.specs.Run.{got, refused}
use Rattle.lmcp.specs.Read.{Read}

-- an object's existence byte and header: "PITSURV", its type, a version
abbrev pub head_of : ℕ → ℕ → List ℕ
head_of v t = 1 ∷ ascii "PITSURV" ++ 0 ∷ 0 ∷ 0 ∷ 0 ∷ t ∷ 0 ∷ v ∷ []

abbrev pub head : ℕ → List ℕ
head = head_of 1

abbrev pub head2 : ℕ → List ℕ
head2 = head_of 2

-- n Notes, one about the other, the last about null; and their numbers
abbrev pub notes : ℕ → List ℕ
notes zero = 0 ∷ []
notes (suc n) = head 6 ++ (0 ∷ 0 ∷ notes n)

abbrev pub noted : ℕ → List ℤ
noted zero = pos 0 ∷ []
noted (suc n) = pos 6 ∷ pos 0 ∷ noted n

-- a PitList of version 2: its count in 4 bytes, a depth of -5 at the mark's end; and its numbers
abbrev pub deep : List ℕ
deep = head2 5 ++ (0 ∷ 0 ∷ 0 ∷ 9 ∷ 0 ∷ 0 ∷ 0 ∷ 2 ∷ head2 4) ++ (0 ∷ 0 ∷ 0 ∷ 7 ∷ 1 ∷ 0 ∷ 255 ∷ 251 ∷ 0 ∷ [])

abbrev pub deep_numbers : List ℤ
deep_numbers = pos 5 ∷ pos 9 ∷ pos 2 ∷ pos 4 ∷ pos 7 ∷ pos 1 ∷ pos 0 ∷ negsuc 4 ∷ pos 0 ∷ []

-- a root, and what is read of it
pub record Case : Type 0 where
  pub bytes : List ℕ
  pub gives : Read

abbrev pub cases : List Case
cases =
    -- Place: lat 1, lon -2, height -3
    record { bytes = head 2 ++ (0 ∷ 0 ∷ 0 ∷ 1 ∷ 255 ∷ 255 ∷ 255 ∷ 254 ∷ 255 ∷ 253 ∷ []); gives = got (pos 2 ∷ pos 1 ∷ negsuc 1 ∷ negsuc 2 ∷ []) [] }
    -- PitList: tile 9, of two pits: PitMark 7, sure, at null; and null
    ∷ record { bytes = head 5 ++ (0 ∷ 0 ∷ 0 ∷ 9 ∷ 0 ∷ 2 ∷ head 4) ++ (0 ∷ 0 ∷ 0 ∷ 7 ∷ 1 ∷ 0 ∷ 0 ∷ []); gives = got (pos 5 ∷ pos 9 ∷ pos 2 ∷ pos 4 ∷ pos 7 ∷ pos 1 ∷ pos 0 ∷ pos 0 ∷ []) [] }
    -- PitMark, whose bool is 2
    ∷ record { bytes = head 4 ++ (0 ∷ 0 ∷ 0 ∷ 7 ∷ 2 ∷ 0 ∷ []); gives = refused 23 }
    -- Note: chars to 127
    ∷ record { bytes = head 6 ++ (0 ∷ 1 ∷ 127 ∷ 0 ∷ []); gives = got (pos 6 ∷ pos 1 ∷ pos 127 ∷ pos 0 ∷ []) [] }
    ∷ record { bytes = head 6 ++ (0 ∷ 1 ∷ 128 ∷ 0 ∷ []); gives = refused 27 }
    -- a header of 13 bytes, of no series
    ∷ record { bytes = 1 ∷ 0 ∷ 0 ∷ 0 ∷ 0 ∷ 0 ∷ 0 ∷ 0 ∷ 0 ∷ 0 ∷ 0 ∷ 0 ∷ 0 ∷ 0 ∷ []; gives = refused 25 }
    -- 16 Notes deep, and 17
    ∷ record { bytes = notes 16; gives = got (noted 16) [] }
    ∷ record { bytes = notes 17; gives = refused 26 }
    ∷ record { bytes = deep; gives = got deep_numbers [] }
    -- mixed, either way
    ∷ record { bytes = head2 5 ++ (0 ∷ 0 ∷ 0 ∷ 9 ∷ 0 ∷ 0 ∷ 0 ∷ 1 ∷ head 4) ++ (0 ∷ 0 ∷ 0 ∷ 7 ∷ 1 ∷ 0 ∷ []); gives = refused 24 }
    ∷ record { bytes = head 5 ++ (0 ∷ 0 ∷ 0 ∷ 9 ∷ 0 ∷ 1 ∷ head2 4) ++ (0 ∷ 0 ∷ 0 ∷ 7 ∷ 1 ∷ 0 ∷ 255 ∷ 251 ∷ []); gives = refused 24 }
    -- no version 0 or 3
    ∷ record { bytes = head_of 0 1; gives = refused 24 }
    ∷ record { bytes = head_of 3 1; gives = refused 24 }
    -- a count of 4,294,967,295, and nothing behind it
    ∷ record { bytes = head2 5 ++ (0 ∷ 0 ∷ 0 ∷ 9 ∷ 255 ∷ 255 ∷ 255 ∷ 255 ∷ []); gives = refused 25 }
    ∷ []
