-- From a PitList's elements to its numbers to its rows, in either version. Assumes nothing.
use Rattle.wire.proofs.Basics.{◌∙◌, sym, ◌≡◌, ap, refl, ℕ, ◌≤◌, ◌<◌, suc, zero, ◌%◌, List, [], ◌∷◌, ◌++◌, true, false, Bool, length, ℤ, pos, arith}
use Rattle.wire.specs.Choice.{pick}
use Rattle.lmcp.specs.Table.{second}
use Rattle.lmcp.specs.Spelled.{nowhere, spot, Element, null, marked, spell_element, spell_all, Spelled, PitsKeep, SpelledBy}
use Rattle.lmcp.proofs.Spells.{pit-list-within}
use Rattle.sorted_set.specs.Lists.{gather}
use Rattle.count_rules.specs.Marks.{Mark, mark_at, list_read, list_in}
use Rattle.count_rules.specs.Keys.{span}
use Rattle.count_rules.specs.Spelled.{mark_of}
use Rattle.count_rules.proofs.Spells.{past_is, list-is}
use Rattle.mark_rows.specs.Placed.{PlacedMark, unmeasured, measured, placed_at, placed_in, placed_of}
use Rattle.mark_rows.specs.Rows.{rows_of}
use Rattle.mark_rows.specs.Spelled.{element_row, RowsAsSpelled}
use Rattle.mark_rows.proofs.RowTurn.{placed-none}
use Rattle.mark_rows.proofs.Counted.{marks_of_lem}
use Rattle.pit_marks.proofs.Proper.{elements-some}

module _ (two : Bool) where
  abbrev placed_element : Element → List PlacedMark
  placed_element null = []
  placed_element (marked pit sure at depth) = record { mark = record { pit = pit; sure = sure }; place = at; depth = pick two (measured depth) unmeasured } ∷ []

-- ---- an element is read as it is spelled

element-is : (two : Bool) (rest : List ℤ) (e : Element) → placed_at two (spell_element two e ++ rest) ≡ placed_element two e
unfolding placed_at mark_at
element-is two rest null = refl
element-is true rest (marked pit true nowhere depth) = refl
element-is true rest (marked pit true (spot lat lon height) depth) = refl
element-is true rest (marked pit false nowhere depth) = refl
element-is true rest (marked pit false (spot lat lon height) depth) = refl
element-is false rest (marked pit true nowhere depth) = refl
element-is false rest (marked pit true (spot lat lon height) depth) = refl
element-is false rest (marked pit false nowhere depth) = refl
element-is false rest (marked pit false (spot lat lon height) depth) = refl

elements-are : (two : Bool) (es : List Element) (n : ℕ) → length es ≤ n → placed_in two n (spell_all two es) ≡ gather (placed_element two) es
unfolding placed_in
elements-are two [] n h = placed-none two n
elements-are two (e ∷ es) zero h = absurd (let z : ⊥ = omega arith in z)
elements-are two (e ∷ es) (suc n) h =
    let rest : List ℤ = spell_all two es in
    λ i. element-is two rest e i ++ (ap (placed_in two n) (past_is two rest e) ∙ elements-are two es n (omega arith)) i

placed-are : (l : List ℤ) (s : Spelled l) → placed_of l ≡ gather (placed_element (second s.version)) s.elements
placed-are l s =
    let two : Bool = second s.version in
    ap placed_of s.numbers ∙ elements-are two s.elements (length (spell_all two s.elements)) (elements-some two s.elements)

-- ---- its row, and what is counted of it

rows_are : (two : Bool) (es : List Element) → PitsKeep (λ n. n < span) es → rows_of (gather (placed_element two) es) ≡ gather (element_row two) es
rows_are two [] k = refl
rows_are two (null ∷ es) k = rows_are two es k.1
rows_are true (marked pit sure nowhere depth ∷ es) k = let o : pit < span = k.0 in let e : pit % span ≡ pit = omega arith in λ i. pos (e i) ∷ pos (pick sure 1 0) ∷ pos 0 ∷ pos 0 ∷ pos 0 ∷ pos 0 ∷ pos 1 ∷ depth ∷ rows_are true es k.1 i
rows_are true (marked pit sure (spot lat lon height) depth ∷ es) k = let o : pit < span = k.0 in let e : pit % span ≡ pit = omega arith in λ i. pos (e i) ∷ pos (pick sure 1 0) ∷ pos 1 ∷ lat ∷ lon ∷ height ∷ pos 1 ∷ depth ∷ rows_are true es k.1 i
rows_are false (marked pit sure nowhere depth ∷ es) k = let o : pit < span = k.0 in let e : pit % span ≡ pit = omega arith in λ i. pos (e i) ∷ pos (pick sure 1 0) ∷ pos 0 ∷ pos 0 ∷ pos 0 ∷ pos 0 ∷ pos 0 ∷ pos 0 ∷ rows_are false es k.1 i
rows_are false (marked pit sure (spot lat lon height) depth ∷ es) k = let o : pit < span = k.0 in let e : pit % span ≡ pit = omega arith in λ i. pos (e i) ∷ pos (pick sure 1 0) ∷ pos 1 ∷ lat ∷ lon ∷ height ∷ pos 0 ∷ pos 0 ∷ rows_are false es k.1 i

marks-are : (two : Bool) (es : List Element) → marks_of_lem (gather (placed_element two) es) ≡ gather mark_of es
marks-are two [] = refl
marks-are two (null ∷ es) = marks-are two es
marks-are two (marked pit sure at depth ∷ es) = ap (λ (ms : List Mark). record { pit = pit; sure = sure } ∷ ms) (marks-are two es)

pub rows_as-spelled : RowsAsSpelled
unfolding list_in list_read
rows_as-spelled payload l r b e five =
    let s : SpelledBy (λ n. n < span) l = pit-list-within payload l r b e five in
    let w : Spelled l = s.spelled in
    let two : Bool = second w.version in
    record {
      spelled = w;
      rows = ap rows_of (placed-are l w) ∙ rows_are two w.elements s.pits;
      counted = ap list_read e ∙ (list-is l w ∙ ap (λ (ms : List Mark). record { tile = w.tile; marks = ms } ∷ []) (sym (ap marks_of_lem (placed-are l w) ∙ marks-are two w.elements)));
    }
