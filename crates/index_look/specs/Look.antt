-- Where the first entry of a key begins, by an index file and its log. Of bytes that are no index this says what comes of them. Definitions only.
use Rattle.std.specs.Prelude.{not, ◌&&◌, List, ℕ, ltb, length}
use Rattle.std.proofs.Math.Option.{Option, none, some}
use Rattle.wire.specs.Choice.{pick, ◌when◌else◌}
use Rattle.wire.specs.Halving.{halve}
use Rattle.log_index.specs.Rows.{Row, row_of, earlier, is_of}
use Rattle.index_file.specs.File.{covered_in, count_in, is_file, file_row}
use Rattle.index_look.specs.Keys.{has_key, ends_lead_lem}
use Rattle.index_look.specs.Looked.{Looked}
use Rattle.index_look.specs.Looked.{At, Nowhere, Refused}

-- ---- by halving, in the file's bytes

-- the place of a row among the first n
unfoldable pub file_rank : List ℕ → ℕ → Row → ℕ
file_rank f n r = halve n (λ i. earlier (file_row f i) r) 0 n

abbrev pub at_rank : List ℕ → ℕ → ℕ → ℕ → ℕ → Option ℕ
at_rank f n s q i = pick (ltb i n && is_of s q (file_row f i)) (some (file_row f i).place) none

-- the first row that is not before the key is one of its own, or there is none
unfoldable pub found_in_file : List ℕ → ℕ → ℕ → ℕ → Option ℕ
found_in_file f n s q = at_rank f n s q (file_rank f n (row_of s q 0))

-- ---- and by the log: "47 not of this log (it covers more bytes than the log has, or the entry at a found place has not that key)"

abbrev pub believed : List ℕ → ℕ → ℕ → Option ℕ → Looked
believed log s q (some place) = pick (has_key log place s q) (At place) (Refused 47)
believed log s q none = Nowhere

unfoldable pub looked_up_lem : List ℕ → List ℕ → ℕ → ℕ → Looked
looked_up_lem log f s q =
    Refused 46 when not (is_file f) else
    Refused 47 when ltb (length log) (covered_in f) else
    Refused 47 when not (ends_lead_lem log (file_row f) (count_in f)) else
    believed log s q (found_in_file f (count_in f) s q)
