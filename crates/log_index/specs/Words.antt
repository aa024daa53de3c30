-- An index in lent words, three a row. For words that are no index this says what comes of them all the same. Definitions only.
use Rattle.std.specs.Prelude.{Option as Maybe, Some, None, ◌&&◌, List, [], ◌∷◌, ℕ, zero, suc, ◌+◌, ◌-◌, ◌*◌, ◌/◌, min, ltb, leb, length, get_or, take, drop}
use Rattle.std.proofs.Math.Option.{Option, none, some}
use Rattle.wire.specs.Choice.{pick}
use Rattle.wire.specs.Overlay.{overlay}
use Rattle.wire.specs.Halving.{halve}
use Rattle.log_index.specs.Rows.{Row, row_of, earlier, sorted, is_of}
use Rattle.log_index.specs.declared.Row as coded

-- the code's row, in the paper's values
abbrev pub row_said : coded.Row → Row
row_said r = row_of r.sender r.sequence r.place

unfoldable pub words_of : List Row → List ℕ
words_of [] = []
words_of (r ∷ rs) = r.sender ∷ r.sequence ∷ r.place ∷ words_of rs

abbrev pub row_at : List ℕ → ℕ → Row
row_at w i = row_of (get_or w (3 * i) 0) (get_or w (3 * i + 1) 0) (get_or w (3 * i + 2) 0)

-- ---- by halving

-- the place of a row among the first n; as many turns as there are rows are enough
unfoldable pub rank_in : List ℕ → ℕ → Row → ℕ
rank_in w n r = halve n (λ i. earlier (row_at w i) r) 0 n

-- ---- a row goes in

-- k rows above a place, and those from the place up to the n-th behind it; so there is room for k rows that come before it
unfoldable pub inserted : List ℕ → ℕ → ℕ → ℕ → Row → List ℕ
inserted w at n k r = overlay w (3 * (at + k)) (r.sender ∷ r.sequence ∷ r.place ∷ take (3 * n - 3 * at) (drop (3 * at) w))

-- at its place, where there are words for it
unfoldable pub entered : List ℕ → ℕ → Row → List ℕ
entered w n r = pick (ltb n (length w / 3)) (inserted w (rank_in w n r) n 0 r) w

-- one row after another
unfoldable pub entered_all : List ℕ → ℕ → List Row → List ℕ
entered_all w n [] = w
entered_all w n (r ∷ rs) = entered_all (entered w n r) (n + 1) rs

-- ---- a batch of sorted rows goes in, from the last on: each at its place among the first n, and what stands behind it moves once

unfoldable pub merged_by : ℕ → List ℕ → List ℕ → ℕ → List ℕ
merged_by zero batch w n = w
merged_by (suc j) batch w n = merged_by j batch (inserted w (rank_in w n (row_at batch j)) n j (row_at batch j)) (rank_in w n (row_at batch j))

-- the first m rows of a batch, where both have words for them
unfoldable pub merged : List ℕ → ℕ → List ℕ → ℕ → List ℕ
merged w n batch m = pick (leb m (length batch / 3) && leb (n + m) (length w / 3)) (merged_by m batch w n) w

-- ---- rows go in a batch at a time, sorted among themselves and then merged

unfoldable pub merged_rows : List ℕ → ℕ → List Row → List ℕ
merged_rows w n rs = merged w n (words_of (sorted rs)) (length rs)

-- b rows a batch
unfoldable pub added_by : ℕ → ℕ → List ℕ → ℕ → List Row → List ℕ
added_by b zero w n rs = w
added_by b (suc k) w n rs = added_by b k (merged_rows w n (take b rs)) (n + length (take b rs)) (drop b rs)

-- there are no more batches than rows
unfoldable pub added_in : ℕ → List ℕ → ℕ → List Row → List ℕ
added_in b w n rs = added_by b (length rs) w n rs

-- ---- a key is found: the first row that is not before it is one of its own, or there is none

-- no more rows than there are words for
abbrev pub held : List ℕ → ℕ → ℕ
held w n = min n (length w / 3)

abbrev pub at_rank : List ℕ → ℕ → ℕ → ℕ → ℕ → Option ℕ
at_rank w n s q i = pick (ltb i n && is_of s q (row_at w i)) (some (row_at w i).place) none

unfoldable pub found_in : List ℕ → ℕ → ℕ → ℕ → Option ℕ
found_in w n s q = at_rank w (held w n) s q (rank_in w (held w n) (row_of s q 0))

-- the code's answer, in the paper's values
abbrev pub says : Maybe ℕ → Option ℕ
says (Some place) = some place
says None = none
