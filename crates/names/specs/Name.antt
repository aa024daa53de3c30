-- Names: document 02, L2, in the words of RFC 3629. `GoodName` is what a name is; `good_name_lem` decides it byte by byte (`proofs/Utf8` `good-name`).
-- Definitions only.
use Rattle.std.specs.Prelude.{◌≡◌, Bool, true, not, ◌&&◌, ◌||◌, List, [], ◌∷◌, ◌++◌, ℕ, ◌+◌, ◌/◌, ◌%◌, ◌≤◌, eqb, leb, ltb, length}
use Rattle.wire.specs.Choice.{◌when◌else◌}
use Rattle.names.specs.Limits.{max_name}
use Rattle.names.specs.Scan.{start, scan}

-- ---- a code point in bytes: RFC 3629, section 3

-- a byte after the first, 10xxxxxx, with the lowest six bits of x
abbrev pub tail_byte : ℕ → ℕ
tail_byte x = 0x80 + x % 0x40

-- up to 7F      0xxxxxxx
-- up to 7FF     110xxxxx 10xxxxxx
-- up to FFFF    1110xxxx 10xxxxxx 10xxxxxx
-- above         11110xxx 10xxxxxx 10xxxxxx 10xxxxxx
unfoldable pub encode : ℕ → List ℕ
encode c =
    c ∷ [] when leb c 0x7f else
    (0xc0 + c / 0x40) ∷ tail_byte c ∷ [] when leb c 0x7ff else
    (0xe0 + c / 0x1000) ∷ tail_byte (c / 0x40) ∷ tail_byte c ∷ [] when leb c 0xffff else
    (0xf0 + c / 0x40000) ∷ tail_byte (c / 0x1000) ∷ tail_byte (c / 0x40) ∷ tail_byte c ∷ []

unfoldable pub encode_all : List ℕ → List ℕ
encode_all [] = []
encode_all (c ∷ cs) = encode c ++ encode_all cs

-- no surrogate, D800 to DFFF, and nothing above 10FFFF (section 3); and none below 32, and not 127 (L2)
abbrev pub allowed : ℕ → Bool
allowed c = (leb 32 c && not (eqb c 127)) && ((ltb c 0xd800 || ltb 0xdfff c) && leb c 0x10ffff)

abbrev pub every : (ℕ → Bool) → List ℕ → Bool
every p [] = true
every p (x ∷ xs) = p x && every p xs

-- ---- a name: 1 to 63 bytes, the encoding of some code points, each of them allowed

pub record GoodName (name : List ℕ) : Type 0 where
  pub points : List ℕ
  pub encoded : name ≡ encode_all points
  pub each : every allowed points ≡ true
  pub least : 1 ≤ length name
  pub most : length name ≤ max_name

-- the same, decided
unfoldable pub good_name_lem : List ℕ → Bool
good_name_lem name = leb 1 (length name) && (leb (length name) max_name && eqb (scan start name).left 0)
