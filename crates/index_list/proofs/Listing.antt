-- The lines of the words of an index are those of its rows. Assumes nothing.
use Rattle.wire.proofs.Basics.{◌∙◌, sym, ◌≡◌, ap, refl, ℕ, ◌≤◌, suc, zero, ◌*◌, List, [], ◌∷◌, ◌++◌, append_assoc, append-nil, length, drop, get_or, take, take-append-drop, take-suc, take-length, arith}
use Rattle.log_index.specs.Rows.{Row, sorted}
use Rattle.log_index.specs.Index.{rows_in, Answer, holds, answer_of}
use Rattle.log_index.specs.Words.{words_of, row_at}
use Rattle.log_index.proofs.Wordings.{row_words}
use Rattle.log_index.proofs.Sorts.{none, sorted-length}
use Rattle.index_builder.specs.Adds.{IndexOf}
use Rattle.log_lines.specs.Lines.{end_line}
use Rattle.index_lines.specs.Lines.{row_line}
use Rattle.index_list.specs.Lines.{row_lines, index_lines_lem, log_lines_lem}
use Rattle.index_list.specs.InsideLines.{lines_below}

lines-append : (rs ss : List Row) → row_lines (rs ++ ss) ≡ row_lines rs ++ row_lines ss
lines-append [] ss = refl
lines-append (r ∷ rs) ss = ap (λ (l : List ℕ). row_line r ++ l) (lines-append rs ss) ∙ sym (append_assoc (row_line r) (row_lines rs) (row_lines ss))

-- the first i rows
lines-below : (rs : List Row) (t : List ℕ) (i : ℕ) → i ≤ length rs → lines_below i (words_of rs ++ t) ≡ row_lines (take i rs)
lines-below rs t zero h = refl
lines-below rs t (suc i) h =
    ap (λ (l : List ℕ). l ++ row_line (row_at (words_of rs ++ t) i)) (lines-below rs t i (omega arith))
    ∙ ap (λ (r : Row). row_lines (take i rs) ++ row_line r) (row_words rs t i (omega arith))
    ∙ ap (λ (l : List ℕ). row_lines (take i rs) ++ l) (sym (append-nil (row_line (get_or rs i none))))
    ∙ sym (lines-append (take i rs) (get_or rs i none ∷ []))
    ∙ ap row_lines (sym (take-suc rs i none (omega arith)))

-- all rows of an index
pub lines-index : (log w : List ℕ) (n : ℕ) → (x : IndexOf log w n) → lines_below n w ≡ row_lines (sorted x.rows)
lines-index log w n x =
    let rs : List Row = sorted x.rows in
    let k : n ≡ length rs = x.count ∙ sym (sorted-length x.rows) in
    let whole : words_of rs ++ drop (3 * n) w ≡ w = ap (λ (l : List ℕ). l ++ drop (3 * n) w) (sym x.words) ∙ take-append-drop (3 * n) w in
    ap (lines_below n) (sym whole)
    ∙ lines-below rs (drop (3 * n) w) n (omega arith)
    ∙ ap (λ (m : ℕ). row_lines (take m rs)) k
    ∙ ap row_lines (take-length rs)

-- what is said of a log whose index has n rows, and of one that is refused
pub lines-held : (log w : List ℕ) (words n : ℕ) → (x : IndexOf log w n) → holds n ≡ answer_of words 0 (rows_in log) → lines_below n w ++ end_line n ≡ log_lines_lem words log
lines-held log w words n x e =
    ap (λ (l : List ℕ). l ++ end_line n) (lines-index log w n x)
    ∙ sym (ap (index_lines_lem (holds n)) x.from-log)
    ∙ ap (λ (a : Answer). index_lines_lem a (rows_in log)) e
