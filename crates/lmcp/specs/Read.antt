-- How the reader takes values, counts and heads from the bytes of a root. 25 comes before any look at a value. Definitions only.
use Rattle.std.specs.Prelude.{Bool, ◌&&◌, ◌||◌, List, [], ◌∷◌, ℕ, ltb, eqb, ℤ, pos, length, drop}
use Rattle.wire.specs.Choice.{pick, ◌when◌else◌}
use Rattle.wire.specs.Bytes.{be}
use Rattle.lmcp.specs.Limits.{series}
use Rattle.lmcp.specs.Run.{Run, got, refused, Tag, tag, bad}
use Rattle.lmcp.specs.Table.{Table}
use Rattle.lmcp.specs.Walk.{Way}
use Rattle.lmcp.specs.Value.{fault, number_of}

abbrev pub Read : Type 0
Read = Run ℕ ℤ

unfoldable pub judged : ℕ → ℕ → ℕ → List ℕ → Read
judged k w v r = pick (eqb (fault k v) 0) (got (number_of k w v ∷ []) r) (refused (fault k v))

unfoldable pub read_value : ℕ → ℕ → List ℕ → Read
read_value k w b = pick (ltb (length b) w) (refused 25) (judged k w (be w b) (drop w b))

unfoldable pub read_count : ℕ → List ℕ → Tag ℕ ℤ
read_count w b = pick (ltb (length b) w) (bad 25) (tag (be w b) (pos (be w b) ∷ []) (drop w b))

-- n is a type of the table, and the declared one, t, unless any may stand there
unfoldable pub typed : Table → ℕ → ℕ → Bool
typed T t n = (ltb 0 n && ltb n (length T.types)) && (eqb t 0 || eqb n t)

-- the 14 bytes of a header, series, type and version, are in the table
unfoldable pub known : Table → ℕ → List ℕ → Bool
known T t b = eqb (be 8 b) series && (eqb (be 2 (drop 12 b)) T.version && typed T t (be 4 (drop 8 b)))

unfoldable pub read_header : Table → ℕ → List ℕ → Tag ℕ ℤ
read_header T t b =
    bad 25 when ltb (length b) 14 else
    tag (be 4 (drop 8 b)) (pos (be 4 (drop 8 b)) ∷ []) (drop 14 b) when known T t b else
    bad 24

-- the existence byte, which ends a null object; the depth; the header
unfoldable pub read_head : Table → ℕ → ℕ → List ℕ → Tag ℕ ℤ
read_head T d t b =
    bad 25 when ltb (length b) 1 else
    bad 23 when ltb 1 (be 1 b) else
    tag 0 (pos 0 ∷ []) (drop 1 b) when eqb (be 1 b) 0 else
    bad 26 when eqb d 0 else
    read_header T t (drop 1 b)

abbrev pub reading : Table → Way ℕ ℤ
reading T = record { value = read_value; count = read_count; head = read_head T }
