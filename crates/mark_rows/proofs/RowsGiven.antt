-- The ways in which the rows of a list are given. Assumes nothing.
use Rattle.wire.proofs.Basics.{◌∙◌, sym, ◌≡◌, ap, ℕ, ◌≤◌, ◌<◌, ◌*◌, ◌/◌, List, true, false, Bool, length, sets, ℤ, le-ltb, lt-ltb, arith}
use Rattle.lmcp.specs.Table.{second}
use Rattle.count_rules.specs.Marks.{at}
use Rattle.mark_rows.specs.Placed.{PlacedMark, placed_of}
use Rattle.mark_rows.specs.Rows.{Of, Other, Refused, rows_of, is_list_lem, lacks, rows_given, rows_left, GivesRows}
use Rattle.mark_rows.specs.InsideRows.{placed_from}

module _ (l rows : List ℤ) (list : Bool) (e : list ≡ is_list_lem l) where
  pub no-list : list ≡ false → GivesRows l rows Other rows
  unfolding rows_given rows_left
  no-list f = let q : is_list_lem l ≡ false = sym e ∙ f in record { gave = rw q; left = rw q }

  module _ (yes : list ≡ true) (two : Bool) (t : two ≡ second (at l 0)) (n : ℕ) (many : n ≡ length (placed_from two l 4)) where
    is : is_list_lem l ≡ true
    is = sym e ∙ yes

    same : placed_from two l 4 ≡ placed_of l
    same = ap (λ (b : Bool). placed_from b l 4) t

    count : n ≡ length (placed_of l)
    count = many ∙ ap (λ (ms : List PlacedMark). length ms) same

    pub no_room : length rows / 8 < n → GivesRows l rows (Refused 13) rows
    unfolding rows_given rows_left
    no_room h =
        let q : lacks l rows ≡ true = lt-ltb (length rows) (8 * length (placed_of l)) (omega (arith, count)) in
        record { gave = rw (is, q); left = rw (is, q) }

    pub rows-given : n ≤ length rows / 8 → (tile : ℕ) → tile ≡ at l 2 → (rows' : List ℤ) → rows' ≡ sets rows 0 (rows_of (placed_from two l 4)) → GivesRows l rows (Of tile n) rows'
    unfolding rows_given rows_left
    rows-given h tile u rows' g =
        let q : lacks l rows ≡ false = le-ltb (length rows) (8 * length (placed_of l)) (omega (arith, count)) in
        record { gave = rw (is, q) (λ i. Of (u i) (count i)); left = rw (is, q) (g ∙ ap (λ (ms : List PlacedMark). sets rows 0 (rows_of ms)) same) }
