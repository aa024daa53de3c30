-- Worked cases of the reader, both sides of a limit, in the paper's own numbers. Definitions only.
use Rattle.std.specs.Prelude.{List, [], ◌∷◌, ◌++◌, ℕ}
use Rattle.wire.specs.Bytes.{bytes}
use Rattle.datagram.specs.Said.{Fragment, Said, refused, small, fragment}

-- the small datagram of sequence 7 with these bytes after it
abbrev pub small_of : List ℕ → List ℕ
small_of rest = bytes 4 0x4c433032 ++ bytes 4 7 ++ rest

-- the fragment k of n, of sequence 7, for a payload of p bytes, from offset o
abbrev pub fragment_of : ℕ → ℕ → ℕ → ℕ → List ℕ → List ℕ
fragment_of p o k n rest = bytes 4 0x4c433033 ++ bytes 4 7 ++ bytes 4 p ++ bytes 4 o ++ bytes 2 k ++ bytes 2 n ++ rest

abbrev pub begun : ℕ → Fragment
begun p = record { sequence = 7; size = p; offset = 0; number = 0; count = 2; name = 0x50 ∷ []; bytes = 0x41 ∷ [] }

abbrev pub later : ℕ → Fragment
later n = record { sequence = 7; size = 3; offset = 1; number = 1; count = n; name = []; bytes = 0x42 ∷ [] }

pub record Case : Type 0 where
  pub datagram : List ℕ
  pub told : Said

abbrev pub case : List ℕ → Said → Case
case d s = record { datagram = d; told = s }

abbrev pub cases : List Case
cases =
    -- 7 bytes are too few; 8 are a header without a name, and any other magic is 2
    case (0x4c ∷ 0x43 ∷ 0x30 ∷ 0x32 ∷ 0 ∷ 0 ∷ 0 ∷ []) (refused 1)
    ∷ case (small_of []) (refused 4)
    ∷ case (bytes 4 0x4c433034 ++ bytes 4 7) (refused 2)
    ∷ case (bytes 4 0x4c433031 ++ bytes 4 7 ++ 0x50 ∷ 0 ∷ 0x41 ∷ []) (refused 2)
    -- a fragment in 19 bytes; in 20, with no data for a number above 0
    ∷ case (bytes 4 0x4c433033 ++ bytes 4 7 ++ bytes 4 3 ++ bytes 4 1 ++ bytes 2 1 ++ 0 ∷ []) (refused 1)
    ∷ case (fragment_of 3 1 1 2 []) (refused 7)
    -- the bytes of a name: 31, 32, 126, 127
    ∷ case (small_of (31 ∷ 0 ∷ [])) (refused 4)
    ∷ case (small_of (32 ∷ 0 ∷ [])) (small 7 (32 ∷ []) [])
    ∷ case (small_of (126 ∷ 0 ∷ 0x41 ∷ [])) (small 7 (126 ∷ []) (0x41 ∷ []))
    ∷ case (small_of (0x50 ∷ 127 ∷ 0 ∷ [])) (refused 4)
    -- e acute, and the same cut; an overlong form, a surrogate, 110000
    ∷ case (small_of (0xc3 ∷ 0xa9 ∷ 0 ∷ [])) (small 7 (0xc3 ∷ 0xa9 ∷ []) [])
    ∷ case (small_of (0xc3 ∷ 0 ∷ [])) (refused 4)
    ∷ case (small_of (0xc1 ∷ 0xbf ∷ 0 ∷ [])) (refused 4)
    ∷ case (small_of (0xed ∷ 0xa0 ∷ 0x80 ∷ 0 ∷ [])) (refused 4)
    ∷ case (small_of (0xf4 ∷ 0x90 ∷ 0x80 ∷ 0x80 ∷ 0 ∷ [])) (refused 4)
    -- P 1,048,576 and 1,048,577
    ∷ case (fragment_of 1_048_576 0 0 2 (0x50 ∷ 0 ∷ 0x41 ∷ [])) (fragment (begun 1_048_576))
    ∷ case (fragment_of 1_048_577 0 0 2 (0x50 ∷ 0 ∷ 0x41 ∷ [])) (refused 6)
    -- n 1,024 and 1,025; n 0; k the same as n, which comes before P
    ∷ case (fragment_of 3 1 1 1_024 (0x42 ∷ [])) (fragment (later 1_024))
    ∷ case (fragment_of 3 1 1 1_025 (0x42 ∷ [])) (refused 5)
    ∷ case (fragment_of 3 1 0 0 (0x42 ∷ [])) (refused 5)
    ∷ case (fragment_of 1_048_577 1 2 2 (0x42 ∷ [])) (refused 5)
    -- fragment 0 from offset 1; P comes before the name, and the name before the form
    ∷ case (fragment_of 3 1 0 2 (0x50 ∷ 0 ∷ 0x41 ∷ [])) (refused 7)
    ∷ case (fragment_of 1_048_577 0 0 2 (127 ∷ 0 ∷ 0x41 ∷ [])) (refused 6)
    ∷ case (fragment_of 3 1 0 2 (127 ∷ 0 ∷ 0x41 ∷ [])) (refused 4)
    ∷ []
