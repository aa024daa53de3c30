-- The first n of some rows: how many there are, and which. Assumes nothing.
use Rattle.wire.proofs.Basics.{◌∙◌, ◌≡◌, ap, refl, ℕ, ◌+◌, ◌<◌, suc, zero, List, [], ◌∷◌, ◌++◌, length, get_or, length-append, ext_get_or, dec_le, add-one, arith}
use lib.ListN.{get_or-append}
use lib.Seq.{get_or_at}
use Rattle.log_index.specs.Rows.{Row}
use Rattle.log_index.proofs.Sorts.{none}
use Rattle.index_file.specs.File.{first_rows}

pub first-length : (n : ℕ) (row : ℕ → Row) → length (first_rows n row) ≡ n
unfolding first_rows
first-length zero row = refl
first-length (suc n) row = length-append (first_rows n row) (row n ∷ []) ∙ ap (λ (k : ℕ). k + 1) (first-length n row) ∙ add-one n

pub first_next : (n : ℕ) (row : ℕ → Row) → first_rows (n + 1) row ≡ first_rows n row ++ (row n ∷ [])
unfolding first_rows
first_next n row = ap (λ (k : ℕ). first_rows k row) (add-one n)

pub first-at : (n : ℕ) (row : ℕ → Row) (i : ℕ) → i < n → get_or (first_rows n row) i none ≡ row i
unfolding first_rows
first-at zero row i h = absurd (let z : ⊥ = omega arith in z)
first-at (suc n) row i h = elim (dec_le (suc i) n) [
  | yes l ↦ get_or-append (first_rows n row) (row n ∷ []) none i (let e = first-length n row in omega (arith, e, l)) ∙ first-at n row i l
  | no l ↦
      let e : n ≡ i = omega (arith, h, l) in
      get_or_at (first_rows n row) (row n) [] none i (first-length n row ∙ e) ∙ ap row e
]

-- a list is its rows by place
pub first-list : (rs : List Row) (row : ℕ → Row) → ((i : ℕ) → i < length rs → row i ≡ get_or rs i none) → first_rows (length rs) row ≡ rs
first-list rs row h =
    ext_get_or none (first_rows (length rs) row) rs (first-length (length rs) row)
    (λ i l. let b : i < length rs = let e = first-length (length rs) row in omega (arith, e, l) in first-at (length rs) row i b ∙ h i b)
