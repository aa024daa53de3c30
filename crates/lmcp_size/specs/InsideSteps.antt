-- The writer's walk over series PITSURV of a version v. Definitions only.
use Rattle.std.specs.Prelude.{List, ℕ, ℤ, get_or}
use Rattle.lmcp.specs.declared.Row.{Row}
use Rattle.lmcp.specs.Table.{rows_of, nothing, pitsurv}
use Rattle.lmcp.specs.Walk.{item, field, fields, object, root}
use Rattle.lmcp.specs.Write.{Write, writing}

abbrev pub write_object : ℕ → ℕ → ℕ → List ℤ → Write
write_object v d = object (writing (pitsurv v)) (pitsurv v) d

abbrev pub write_item : ℕ → ℕ → Row → List ℤ → Write
write_item v d = item (writing (pitsurv v)) (write_object v d)

abbrev pub write_field : ℕ → ℕ → Row → List ℤ → Write
write_field v d = field (writing (pitsurv v)) (write_object v d)

-- row i
abbrev pub write_row : ℕ → ℕ → ℕ → List ℤ → Write
write_row v d i = write_field v d (get_or (rows_of (pitsurv v)) i nothing)

abbrev pub write_fields : ℕ → ℕ → List Row → List ℤ → Write
write_fields v d = fields (writing (pitsurv v)) (write_object v d)

abbrev pub write_root : ℕ → List ℤ → Write
write_root v = root (writing (pitsurv v)) (pitsurv v)
