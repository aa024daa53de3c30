-- A stretch as the C host is told it: a run of numbers, in the order of the header. Definitions only.
use Rattle.std.specs.Prelude.{List, [], ◌∷◌, ◌++◌, ℕ}
use Rattle.stretch.specs.Stop.{Stop, Taken, End, Broken, Refused}
use Rattle.stretch.specs.Stop.{Stretch}

-- why and where it stopped, entries and the answers, ten refusals, and three sizes
abbrev pub stretch_length : ℕ
stretch_length = 21

-- 0 as many were taken as were asked for, 1 the log's end, 2 the log's own refusal, 3 a refusal by what is lent; and the number of the refusal
abbrev pub stop_numbers_lem : Stop → List ℕ
stop_numbers_lem Taken = 0 ∷ 0 ∷ []
stop_numbers_lem End = 1 ∷ 0 ∷ []
stop_numbers_lem (Broken n) = 2 ∷ n ∷ []
stop_numbers_lem (Refused n) = 3 ∷ n ∷ []

abbrev pub stretch_numbers : Stretch → List ℕ
stretch_numbers r =
    stop_numbers_lem r.stop
    ++ (r.place ∷ r.entries ∷ r.totals.kept ∷ r.totals.repeated ∷ r.totals.delivered ∷ r.totals.lists ∷ [])
    ++ r.totals.refused
    ++ (r.sizes.tiles ∷ r.sizes.pits ∷ r.sizes.sure ∷ [])
