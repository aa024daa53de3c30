-- A report as the C host is told it: a run of numbers, in the order of the header. Definitions only.
use Rattle.std.specs.Prelude.{List, [], ◌∷◌, ◌++◌, ℕ}
use Rattle.count.specs.declared.Report.{Report}

-- entries and the three answers, ten refusals, lists and tiles, and three numbers of each of 256 tiles
abbrev pub report_length : ℕ
report_length = 784

abbrev pub numbers_of : Report → List ℕ
numbers_of r =
    (r.entries ∷ r.kept ∷ r.repeated ∷ r.delivered ∷ [])
    ++ r.refused
    ++ (r.lists ∷ r.tiles ∷ [])
    ++ r.tile
    ++ r.pits
    ++ r.sure
