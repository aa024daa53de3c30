-- The message table: what a table is, and series PITSURV. Definitions only.
use Rattle.std.specs.Prelude.{◌≡◌, Bool, List, [], ◌∷◌, ◌++◌, ℕ, ◌+◌, ◌^◌, ◌≤◌, ◌<◌, eqb, length, get_or}
use Rattle.wire.specs.Choice.{pick}
use Rattle.lmcp.specs.declared.Row.{Row}

-- ---- kinds of elements

abbrev pub unsigned_kind : ℕ
unsigned_kind = 0

abbrev pub signed_kind : ℕ
signed_kind = 1

abbrev pub bool_kind : ℕ
bool_kind = 2

abbrev pub char_kind : ℕ
char_kind = 3

abbrev pub object_kind : ℕ
object_kind = 4

-- a field of one element: its kind, and its bytes or, of an object, the declared type (0: any)
abbrev pub one : ℕ → ℕ → Row
one k a = record { count = 0; fixed = 1; kind = k; arg = a }

abbrev pub byte : Row
byte = one unsigned_kind 1

abbrev pub bool : Row
bool = one bool_kind 1

abbrev pub char : Row
char = one char_kind 1

abbrev pub uint16 : Row
uint16 = one unsigned_kind 2

abbrev pub uint32 : Row
uint32 = one unsigned_kind 4

abbrev pub int16 : Row
int16 = one signed_kind 2

abbrev pub int32 : Row
int32 = one signed_kind 4

abbrev pub int64 : Row
int64 = one signed_kind 8

-- its bits, not negative
abbrev pub real32 : Row
real32 = one unsigned_kind 4

-- the signed number with the same bits
abbrev pub real64 : Row
real64 = one signed_kind 8

abbrev pub object_of : ℕ → Row
object_of t = one object_kind t

abbrev pub lmcp_object : Row
lmcp_object = object_of 0

-- n elements, with no count
abbrev pub fixed_of : ℕ → Row → Row
fixed_of n f = record { count = 0; fixed = n; kind = f.kind; arg = f.arg }

-- a variable array, its count in w bytes
abbrev pub array_of : ℕ → Row → Row
array_of w f = record { count = w; fixed = 0; kind = f.kind; arg = f.arg }

abbrev pub string : Row
string = array_of 2 char

-- ---- a table: the version in its objects' headers, and the fields of each type from 0 on; type 0 is null and has none

pub record Table : Type 0 where
  pub version : ℕ
  pub types : List (List Row)

abbrev pub fields_of : Table → ℕ → List Row
fields_of T n = get_or T.types n []

-- the rows of all types, one type after the other, and where each type's rows begin, at last where they all end
abbrev pub joined : List (List Row) → List Row
joined [] = []
joined (t ∷ ts) = t ++ joined ts

abbrev pub beginnings : ℕ → List (List Row) → List ℕ
beginnings o [] = o ∷ []
beginnings o (t ∷ ts) = o ∷ beginnings (o + length t) ts

abbrev pub rows_of : Table → List Row
rows_of T = joined T.types

abbrev pub starts_of : Table → List ℕ
starts_of T = beginnings 0 T.types

-- what stands past the last row
abbrev pub nothing : Row
nothing = record { count = 0; fixed = 0; kind = 0; arg = 0 }

-- ---- what the walks need of a row: its count in at most 7 bytes, and its values in 1 to 8 where they are signed, else in at most 7

pub record RowFits (f : Row) : Type 0 where
  pub count_fits : f.count ≤ 7
  pub arg-least : (f.kind ≡ object_kind → ⊥) → 1 ≤ f.arg
  pub arg-signed : (f.kind ≡ object_kind → ⊥) → f.arg ≤ 8
  pub arg_plain : (f.kind ≡ object_kind → ⊥) → (f.kind ≡ signed_kind → ⊥) → f.arg ≤ 7

abbrev pub RowsFit : List Row → Type 0
RowsFit [] = Unit
RowsFit (f ∷ fs) = RowFits f × RowsFit fs

-- a table that fits into headers, and whose rows fit: what both round trips suppose of a table
pub record Sound (T : Table) : Type 0 where
  pub version-fits : T.version < 256 ^ 2
  pub types_fit : length T.types ≤ 256 ^ 4
  pub rows_fit : RowsFit (rows_of T)

-- ---- series PITSURV, by version: the second edition is the first with PitList's count in 4 bytes and one more field in PitMark at its
-- end, its depth in centimetres

abbrev pub second : ℕ → Bool
second v = eqb v 2

abbrev pub types_of : Bool → List (List Row)
types_of two =
    []
    -- 1 Ping: none
    ∷ []
    -- 2 Place: lat, lon, height
    ∷ (int32 ∷ int32 ∷ int16 ∷ [])
    -- 3 TileHead: tile, column, row, corner
    ∷ (uint32 ∷ uint16 ∷ uint16 ∷ object_of 2 ∷ [])
    -- 4 PitMark: pit, sure, at; in version 2 depth
    ∷ (uint32 ∷ bool ∷ object_of 2 ∷ pick two (int16 ∷ []) [])
    -- 5 PitList: tile, pits
    ∷ (uint32 ∷ array_of (pick two 4 2) (object_of 4) ∷ [])
    -- 6 Note: text, about
    ∷ (string ∷ lmcp_object ∷ [])
    -- 7 Frame: camera, stamp, tilt, tick, head
    ∷ (fixed_of 4 byte ∷ real64 ∷ real32 ∷ int64 ∷ object_of 3 ∷ [])
    ∷ []

abbrev pub pitsurv : ℕ → Table
pitsurv v = record { version = v; types = types_of (second v) }
