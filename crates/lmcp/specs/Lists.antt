-- Number lists: a message of either version as numbers, and back. A list begins with the version. Definitions only.
use Rattle.std.specs.Prelude.{Bool, false, ◌||◌, List, [], ◌∷◌, ℕ, eqb, ℤ, pos, negsuc, drop}
use Rattle.std.specs.Int.Signed.{mag}
use Rattle.wire.specs.Choice.{pick}
use Rattle.wire.specs.Bytes.{be}
use Rattle.lmcp.specs.Run.{refused, prepend}
use Rattle.lmcp.specs.Table.{pitsurv}
use Rattle.lmcp.specs.Read.{Read}
use Rattle.lmcp.specs.Write.{Write}
use Rattle.lmcp.specs.Message.{root_of, read_message_lem, write_message_lem}

-- The version of a message is its root's: 2 where the root's header says so, behind its existence byte, series and type; else 1, whose
-- table refuses any other. By that one table every object is read, so one of another version is refused where it stands.
abbrev pub version_of_lem : List ℕ → ℕ
version_of_lem b = pick (eqb (be 2 (drop 13 b)) 2) 2 1

unfoldable pub read_as : ℕ → List ℕ → Read
read_as v m = prepend (pos v ∷ []) (read_message_lem (pitsurv v) m)

unfoldable pub read_list : List ℕ → Read
read_list m = read_as (version_of_lem (root_of m)) m

-- 1 or 2
abbrev pub is_version_lem : ℤ → Bool
is_version_lem (pos n) = eqb n 1 || eqb n 2
is_version_lem (negsuc n) = false

-- the version first: 25 where there is none, 29 where it is not 1 or 2; then the walk by its table
unfoldable pub write_list : Bool → List ℤ → Write
write_list calculate [] = refused 25
write_list calculate (z ∷ l) = pick (is_version_lem z) (write_message_lem (pitsurv (mag z)) calculate l) (refused 29)
