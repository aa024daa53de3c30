-- The table of series PITSURV as bytes, computed from its rows: of each row its count, fixed, kind, arg; the bytes of the run of plain numbers that
-- it begins, which a bool may end (0: it begins none), the rows of that run, or 1, and whether a bool ends it; a code for kind and width. Behind them
-- two rows: where each type's rows begin, and where they end. Definitions only.
use Rattle.std.specs.Prelude.{Bool, ◌&&◌, ◌||◌, List, [], ◌∷◌, ◌++◌, ℕ, zero, suc, ◌+◌, ◌*◌, eqb, take, drop}
use Rattle.wire.specs.Choice.{pick, ◌when◌else◌}
use Rattle.lmcp.specs.declared.Row.{Row}
use Rattle.lmcp.specs.Table.{unsigned_kind, signed_kind, bool_kind, object_kind, types_of, beginnings, second}

-- numbers of which nothing is wrong but that they may be cut short
abbrev pub plain : Row → Bool
plain f = eqb f.count 0 && (eqb f.kind unsigned_kind || eqb f.kind signed_kind)

abbrev pub single : Row → Bool
single f = eqb f.count 0 && (eqb f.fixed 1 && (eqb f.kind bool_kind && eqb f.arg 1))

-- the bytes, the rows and the bool of the run with which rows begin
abbrev pub run_bytes : List Row → ℕ
run_bytes [] = 0
run_bytes (f ∷ fs) = pick (plain f) (f.fixed * f.arg + run_bytes fs) (pick (single f) 1 0)

abbrev pub run_rows : List Row → ℕ
run_rows [] = 0
run_rows (f ∷ fs) = pick (plain f) (suc (run_rows fs)) (pick (single f) 1 0)

abbrev pub run_bool : List Row → ℕ
run_bool [] = 0
run_bool (f ∷ fs) = pick (plain f) (run_bool fs) (pick (single f) 1 0)

-- kind and width in one
abbrev pub code : Row → ℕ
code f =
    6 when eqb f.kind object_kind else
    pick (eqb f.arg 2) 3 (pick (eqb f.arg 4) 4 5) when eqb f.kind signed_kind else
    pick (eqb f.arg 1) 0 (pick (eqb f.arg 2) 1 2)

abbrev pub at_least1 : ℕ → ℕ
at_least1 zero = 1
at_least1 (suc n) = suc n

abbrev pub packed : List Row → List (List ℕ)
packed [] = []
packed (f ∷ fs) =
    (f.count ∷ f.fixed ∷ f.kind ∷ f.arg ∷ run_bytes (f ∷ fs) ∷ at_least1 (run_rows (f ∷ fs)) ∷ run_bool (f ∷ fs) ∷ code f ∷ [])
    ∷ packed fs

abbrev pub packed_all : List (List Row) → List (List ℕ)
packed_all [] = []
packed_all (t ∷ ts) = packed t ++ packed_all ts

-- n rows, zeros where they have ended
abbrev pub filled : ℕ → List (List ℕ) → List (List ℕ)
filled zero l = []
filled (suc n) [] = (0 ∷ 0 ∷ 0 ∷ 0 ∷ 0 ∷ 0 ∷ 0 ∷ 0 ∷ []) ∷ filled n []
filled (suc n) (x ∷ l) = x ∷ filled n l

unfoldable pub packed_by : Bool → List (List ℕ)
packed_by two = filled 20 (packed_all (types_of two)) ++ (take 8 (beginnings 0 (types_of two)) ∷ drop 1 (beginnings 0 (types_of two)) ∷ [])

abbrev pub packed_of : ℕ → List (List ℕ)
packed_of v = packed_by (second v)
