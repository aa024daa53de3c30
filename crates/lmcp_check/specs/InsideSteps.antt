-- The reader's walk over series PITSURV of a version v. Definitions only.
use Rattle.std.specs.Prelude.{List, ℕ, get_or}
use Rattle.lmcp.specs.declared.Row.{Row}
use Rattle.lmcp.specs.Table.{rows_of, nothing, pitsurv}
use Rattle.lmcp.specs.Walk.{item, field, fields, object, root}
use Rattle.lmcp.specs.Read.{Read, reading}

abbrev pub read_object : ℕ → ℕ → ℕ → List ℕ → Read
read_object v d = object (reading (pitsurv v)) (pitsurv v) d

abbrev pub read_item : ℕ → ℕ → Row → List ℕ → Read
read_item v d = item (reading (pitsurv v)) (read_object v d)

abbrev pub read_field : ℕ → ℕ → Row → List ℕ → Read
read_field v d = field (reading (pitsurv v)) (read_object v d)

-- row i
abbrev pub read_row : ℕ → ℕ → ℕ → List ℕ → Read
read_row v d i = read_field v d (get_or (rows_of (pitsurv v)) i nothing)

abbrev pub read_fields : ℕ → ℕ → List Row → List ℕ → Read
read_fields v d = fields (reading (pitsurv v)) (read_object v d)

abbrev pub read_root : ℕ → List ℕ → Read
read_root v = root (reading (pitsurv v)) (pitsurv v)
