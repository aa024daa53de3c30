-- How the writer takes values, counts and types from a list of numbers. Definitions only.
use Rattle.std.specs.Prelude.{Bool, false, List, [], ◌∷◌, ◌++◌, ℕ, ◌*◌, ◌^◌, eqb, ℤ, pos, negsuc}
use Rattle.std.specs.Int.Signed.{mag}
use Rattle.wire.specs.Choice.{pick, ◌when◌else◌}
use Rattle.wire.specs.Bytes.{bytes}
use Rattle.wire.specs.Signed.{unsigned}
use Rattle.lmcp.specs.Limits.{series}
use Rattle.lmcp.specs.Run.{Run, got, refused, Tag, tag, bad}
use Rattle.lmcp.specs.Table.{Table}
use Rattle.lmcp.specs.Walk.{Way}
use Rattle.lmcp.specs.Value.{below, fits, denial}
use Rattle.lmcp.specs.Read.{typed}

abbrev pub Write : Type 0
Write = Run ℤ ℕ

unfoldable pub write_value : ℕ → ℕ → List ℤ → Write
write_value k w [] = refused 25
write_value k w (z ∷ r) = pick (fits k w z) (got (bytes w (unsigned (8 * w) z)) r) (refused (denial k))

unfoldable pub write_count : ℕ → List ℤ → Tag ℤ ℕ
write_count w [] = bad 25
write_count w (z ∷ r) = pick (below (2 ^ (8 * w)) z) (tag (mag z) (bytes w (mag z)) r) (bad 29)

-- an existence byte of 1, and a header
unfoldable pub header : Table → ℕ → List ℕ
header T n = 1 ∷ (bytes 8 series ++ (bytes 4 n ++ bytes 2 T.version))

-- a negative number is no type
abbrev pub typed_by_lem : Table → ℕ → ℤ → Bool
typed_by_lem T t (pos n) = typed T t n
typed_by_lem T t (negsuc n) = false

-- the type, 0 for null, which ends there; the depth; then whether the type may stand there
unfoldable pub write_head : Table → ℕ → ℕ → List ℤ → Tag ℤ ℕ
write_head T d t [] = bad 25
write_head T d t (z ∷ r) =
    tag 0 (0 ∷ []) r when below 1 z else
    bad 26 when eqb d 0 else
    tag (mag z) (header T (mag z)) r when typed_by_lem T t z else
    bad 24

abbrev pub writing : Table → Way ℤ ℕ
writing T = record { value = write_value; count = write_count; head = write_head T }
