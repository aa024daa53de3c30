-- An index file: an index that is kept beside its log. "Edition byte 1, how many bytes of the log it covers (8 bytes), how many rows (8), then the rows of 20
-- bytes: sender (8), sequence (4), place (8), big-endian, sorted as L11 has it." Definitions only.
use Rattle.std.specs.Prelude.{Bool, true, not, ◌&&◌, List, [], ◌∷◌, ◌++◌, ℕ, zero, suc, ◌+◌, ◌-◌, ◌*◌, ◌/◌, ◌^◌, ◌<◌, eqb, ltb, length, get_or, drop}
use Rattle.wire.specs.Bytes.{be, bytes}
use Rattle.wire.specs.Choice.{pick}
use Rattle.log_index.specs.Rows.{Row, row_of, earlier}

abbrev pub file_byte : ℕ
file_byte = 1

abbrev pub head_length : ℕ
head_length = 1 + (8 + 8)

abbrev pub row_length : ℕ
row_length = 8 + (4 + 8)

-- ---- written: the file of a covered length and rows

-- the numbers that a row has room for
pub record Fits (r : Row) : Type 0 where
  pub sender : r.sender < 2 ^ 64
  pub sequence : r.sequence < 2 ^ 32
  pub place : r.place < 2 ^ 64

abbrev pub row_bytes : Row → List ℕ
row_bytes r = bytes 8 r.sender ++ (bytes 4 r.sequence ++ bytes 8 r.place)

unfoldable pub rows_bytes : List Row → List ℕ
rows_bytes [] = []
rows_bytes (r ∷ rs) = row_bytes r ++ rows_bytes rs

abbrev pub head_of : ℕ → ℕ → List ℕ
head_of covered n = (file_byte ∷ []) ++ (bytes 8 covered ++ bytes 8 n)

unfoldable pub file_of : ℕ → List Row → List ℕ
file_of covered rs = head_of covered (length rs) ++ rows_bytes rs

-- ---- read: what any bytes say

-- how many bytes of the log it covers, and how many rows it says it has
abbrev pub covered_in : List ℕ → ℕ
covered_in f = be 8 (drop 1 f)

abbrev pub count_in : List ℕ → ℕ
count_in f = be 8 (drop 9 f)

-- the first byte is the edition's, and the length is that of the rows
unfoldable pub is_file : List ℕ → Bool
is_file f = eqb (get_or f 0 0) file_byte && eqb (length f) (head_length + row_length * count_in f)

-- the row at the front of some bytes
abbrev pub row_in : List ℕ → Row
row_in b = row_of (be 8 b) (be 4 (drop 8 b)) (be 8 (drop 12 b))

-- row i, from 0; zeros where there are no bytes for it
unfoldable pub file_row : List ℕ → ℕ → Row
file_row f i = pick (ltb i ((length f - head_length) / row_length)) (row_in (drop (head_length + row_length * i) f)) (row_of 0 0 0)

-- the first n of some rows
unfoldable pub first_rows : ℕ → (ℕ → Row) → List Row
first_rows zero row = []
first_rows (suc n) row = first_rows n row ++ (row n ∷ [])

abbrev pub rows_of_file : List ℕ → List Row
rows_of_file f = first_rows (count_in f) (file_row f)

-- ---- sorted: none of the first n rows comes before the one in front of it

abbrev pub in_place : (ℕ → Row) → ℕ → Bool
in_place row zero = true
in_place row (suc i) = not (earlier (row (suc i)) (row i))

unfoldable pub in_order_lem : (ℕ → Row) → ℕ → Bool
in_order_lem row zero = true
in_order_lem row (suc n) = in_order_lem row n && in_place row n

-- "46 not an index file (edition, length not that of its rows, rows not sorted)"
abbrev pub is_index_file : List ℕ → Bool
is_index_file f = is_file f && in_order_lem (file_row f) (count_in f)
