-- Where the name of a datagram ends: before the first zero byte (document 01, "Datagrams"). Definitions only.
use Rattle.std.specs.Prelude.{◌&&◌, List, [], ◌∷◌, ℕ, suc, eqb, ltb, length, take, Option, Some, None}
use Rattle.wire.specs.Choice.{pick}
use Rattle.names.specs.Name.{good_name_lem}

-- how many bytes stand before the first zero byte: all, where there is none
unfoldable pub until_zero_lem : List ℕ → ℕ
until_zero_lem [] = 0
until_zero_lem (x ∷ xs) = pick (eqb x 0) 0 (suc (until_zero_lem xs))

-- the length of the good name that b begins with, before a zero byte; or none
unfoldable pub name_length_lem : List ℕ → Option ℕ
name_length_lem b = pick (ltb (until_zero_lem b) (length b) && good_name_lem (take (until_zero_lem b) b)) (Some (until_zero_lem b)) None
