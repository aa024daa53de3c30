-- A key at its place, or not. Assumes nothing.
use Rattle.wire.proofs.Basics.{◌∙◌, sym, ◌≡◌, ap, ℕ, ◌+◌, ◌<◌, ◌*◌, List, true, false, Bool, ◌&&◌, some, none, length, get_or, ltb, ltb-true, arith}
use Rattle.wire.specs.Choice.{pick}
use Rattle.wire.proofs.Choices.{and_l}
use Rattle.log_index.specs.Rows.{row_of, is_of}
use Rattle.log_index.specs.Words.{row_at, rank_in, held, at_rank, found_in}

module _ (w : List ℕ) (n s q m i : ℕ) (e : m ≡ held w n) (r : i ≡ rank_in w m (row_of s q 0)) where
  at-its-rank : at_rank w m s q i ≡ found_in w n s q
  unfolding found_in
  at-its-rank = ap (at_rank w m s q) r ∙ ap (λ (k : ℕ). at_rank w k s q (rank_in w k (row_of s q 0))) e

  pub found_some : (ltb i m && is_of s q (row_at w i)) ≡ true → some (get_or w (3 * i + 2) 0) ≡ found_in w n s q
  found_some h = ap (λ (t : Bool). pick t (some (get_or w (3 * i + 2) 0)) none) (sym h) ∙ at-its-rank

  pub found_none : (ltb i m && is_of s q (row_at w i)) ≡ false → none ≡ found_in w n s q
  found_none h = ap (λ (t : Bool). pick t (some (get_or w (3 * i + 2) 0)) none) (sym h) ∙ at-its-rank

  pub found_inside : (ltb i m && is_of s q (row_at w i)) ≡ true → 3 * i + 2 < length w
  found_inside h =
      let l : i < m = ltb-true i m (and_l (ltb i m) (is_of s q (row_at w i)) h) in
      omega arith
