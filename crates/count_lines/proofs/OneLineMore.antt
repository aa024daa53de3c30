-- One line more. Assumes nothing.
use Rattle.wire.proofs.Basics.{sym, ◌≡◌, ap, ℕ, ◌+◌, suc, List, [], ◌∷◌, ◌++◌, Bool, get_or, eq-eqb, ne_eqb, arith}
use Rattle.wire.specs.Choice.{pick}
use Rattle.text.specs.Text.{decimal}
use Rattle.count_lines.specs.Lines.{refused_word, refused_line, refused_lines, tile_line, tile_lines}

-- what the line of a number says where it has one
abbrev pub refused_text : ℕ → ℕ → List ℕ
refused_text number n = (refused_word ++ decimal number) ++ ((32 ∷ []) ++ decimal n ++ 10 ∷ [])

pub refused_none : (number n : ℕ) → n ≡ 0 → [] ≡ refused_line number n
refused_none number n e = sym (ap (λ (b : Bool). pick b [] (refused_text number n)) (eq-eqb n 0 e))

pub refused-some : (number n : ℕ) → (n ≡ 0 → ⊥) → refused_text number n ≡ refused_line number n
refused-some number n e = sym (ap (λ (b : Bool). pick b [] (refused_text number n)) (ne_eqb n 0 e))

pub refused-more : (i : ℕ) (refused : List ℕ) → refused_lines i refused ++ refused_line i (get_or refused i 0) ≡ refused_lines (i + 1) refused
refused-more i refused = ap (λ (k : ℕ). refused_lines k refused) (let e : suc i ≡ i + 1 = omega arith in e)

pub tile-more : (i : ℕ) (tile pits sure : List ℕ) → tile_lines i tile pits sure ++ tile_line (get_or tile i 0) (get_or pits i 0) (get_or sure i 0) ≡ tile_lines (i + 1) tile pits sure
tile-more i tile pits sure = ap (λ (k : ℕ). tile_lines k tile pits sure) (let e : suc i ≡ i + 1 = omega arith in e)
