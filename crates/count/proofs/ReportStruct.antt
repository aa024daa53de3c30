-- The report in the struct is the report of the lists seen. Assumes nothing.
use Rattle.wire.proofs.Basics.{◌∙◌, sym, ◌≡◌, ap, refl, ℕ, ◌≤◌, ◌+◌, ◌-◌, suc, zero, List, ◌++◌, map, length, drop, length-replicate, length-map, arith}
use mathlib.Core.List.{map-id}
use native.Mathlib.Nat.{sub-zero, suc-sub-suc, zero-sub}
use Rattle.wire.specs.Overlay.{overlay}
use Rattle.wire.proofs.Overlays.{overlay-eq}
use Rattle.wire.proofs.Parts.{map_both}
use Rattle.sorted_set.proofs.Sets.{as_many}
use Rattle.count_rules.specs.Marks.{PitList}
use Rattle.count_rules.specs.Report.{tiles, pits, sure_pits, Line, line, report}
use Rattle.count_rules.specs.Count.{max_tiles, reported}
use Rattle.pit_marks.specs.declared.Sizes.{Sizes}
use Rattle.wire.specs.Slices.{◌⇒◌}
use Rattle.pit_marks.specs.Lines.{Lays}
use Rattle.pit_marks.specs.Sets.{Sets, Has}
use Rattle.pit_marks.proofs.Told.{tiles-told, pits-told, sure-told}
use Rattle.count.specs.Answer.{Given}
use Rattle.count.specs.Answer.{Counted}
use Rattle.stretch.specs.declared.Totals.{Totals}
use Rattle.count.specs.Counts.{zeros, padded, column_of, counted}
use Rattle.count.specs.Inside.{report_with}

drop-zeros : (k n : ℕ) → drop k (zeros n) ≡ zeros (n - k)
drop-zeros zero n = ap zeros (sym (sub-zero n))
drop-zeros (suc k) zero = ap zeros (sym (zero-sub (suc k)))
drop-zeros (suc k) (suc n) = drop-zeros k n ∙ ap zeros (sym (suc-sub-suc n k))

-- numbers laid over zeros have zeros behind them
laid-padded : (n : ℕ) (l : List ℕ) → length l ≤ n → overlay (zeros n) 0 l ≡ l ++ zeros (n - length l)
laid-padded n l h =
    let z : 0 + length l ≡ length l = omega arith in
    let o : 0 + length l ≤ length (zeros n) = rw (length-replicate {A = ℕ} n 0) (omega arith) in
    overlay-eq (zeros n) 0 l o ∙ (ap (λ (k : ℕ). l ++ drop k (zeros n)) z ∙ ap (λ (m : List ℕ). l ++ m) (drop-zeros (length l) n))

module _ (entries : ℕ) (totals : Totals) (sizes : Sizes) (sets : Sets) (seen : List PitList) (h : Has sets sizes seen) (room : sizes.tiles ≤ max_tiles) (a b c : List ℕ)
    (L : Lays sets sizes (zeros max_tiles ⇒ a) (zeros max_tiles ⇒ b) (zeros max_tiles ⇒ c)) where
  many : length (tiles seen) ≡ sizes.tiles
  many = as_many sets.tiles sizes.tiles (tiles seen) h.the-tiles

  few : length (tiles seen) ≤ max_tiles
  few = omega (arith, many)

  -- one column, from what is laid
  column : (f : ℕ → ℕ) (g : Line → ℕ) → ((x : ℕ) → g (line seen x) ≡ f x) → (l : List ℕ) → l ≡ overlay (zeros max_tiles) 0 (map f (tiles seen)) → l ≡ column_of g (report seen)
  unfolding report
  column f g e l q =
      let o : length (map f (tiles seen)) ≤ max_tiles = rw (length-map (tiles seen) f) few in
      q ∙ (laid-padded max_tiles (map f (tiles seen)) o ∙ ap padded (sym (map_both (line seen) g f e (tiles seen))))

  pub given_is : ◌≡◌ {A = Counted}
      (record {
        answer = Given;
        report = record {
          entries = entries;
          kept = totals.kept;
          repeated = totals.repeated;
          delivered = totals.delivered;
          refused = totals.refused;
          lists = totals.lists;
          tiles = sizes.tiles;
          tile = a;
          pits = b;
          sure = c;
        };
      })
      (counted (reported (report_with entries totals (report seen))))
  unfolding report
  given_is =
      let x : a ≡ column_of (λ (l : Line). l.tile) (report seen) =
      column (λ n. n) (λ (l : Line). l.tile) (λ n. refl) a (L.numbers ∙ ap (overlay (zeros max_tiles) 0) (tiles-told sets sizes seen h ∙ sym (map-id (tiles seen)))) in
      let y : b ≡ column_of (λ (l : Line). l.pits) (report seen) =
      column (λ n. length (pits seen n)) (λ (l : Line). l.pits) (λ n. refl) b (L.pits-of ∙ ap (overlay (zeros max_tiles) 0) (pits-told sets sizes seen h)) in
      let z : c ≡ column_of (λ (l : Line). l.sure) (report seen) =
      column (λ n. length (sure_pits seen n)) (λ (l : Line). l.sure) (λ n. refl) c (L.sure-of ∙ ap (overlay (zeros max_tiles) 0) (sure-told sets sizes seen h)) in
      let n : sizes.tiles ≡ length (report seen) = sym many ∙ sym (length-map (tiles seen) (line seen)) in
      λ i. record {
        answer = Given;
        report = record {
          entries = entries;
          kept = totals.kept;
          repeated = totals.repeated;
          delivered = totals.delivered;
          refused = totals.refused;
          lists = totals.lists;
          tiles = n i;
          tile = x i;
          pits = y i;
          sure = z i;
        };
      }
