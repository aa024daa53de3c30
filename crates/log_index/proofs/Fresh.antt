-- Rows that enter an index of others make the index of all, worked out afresh. Assumes nothing.
use Rattle.wire.proofs.Basics.{◌∙◌, sym, ◌≡◌, ap, ℕ, ◌≤◌, ◌+◌, ◌*◌, List, ◌++◌, length, drop, take, length-append, length-drop, take-append-drop, drop-drop, arith}
use Rattle.wire.specs.Overlay.{overlay}
use Rattle.wire.proofs.Overlays.{overlay-eq}
use Rattle.log_index.specs.Rows.{Row, sorted}
use Rattle.log_index.specs.Words.{words_of, entered_all}
use Rattle.log_index.proofs.Sorts.{added-sorted, sorted-ordered, sorted-length}
use Rattle.log_index.proofs.Wordings.{words-length, entered_all_lem}

pub entered-sorted : (w : List ℕ) (xs ys : List Row) → take (3 * length xs) w ≡ words_of (sorted xs) → 3 * (length xs + length ys) ≤ length w
    → entered_all w (length xs) ys ≡ overlay w 0 (words_of (sorted (xs ++ ys)))
entered-sorted w xs ys e room =
    let n : ℕ = 3 * length xs in
    let t : List ℕ = drop n w in
    let s : List ℕ = words_of (sorted (xs ++ ys)) in
    let d = length-drop n w in
    let l : length s ≡ n + 3 * length ys = words-length (sorted (xs ++ ys)) ∙ (let a = sorted-length (xs ++ ys) in let b = length-append xs ys in omega (arith, a, b)) in
    let split : w ≡ words_of (sorted xs) ++ t = sym (take-append-drop n w) ∙ ap (λ (u : List ℕ). u ++ t) e in
    let r : 0 + length s ≤ length w = omega (arith, l) in
    let m : n + 3 * length ys ≡ 0 + length s = omega (arith, l) in
    (λ j. entered_all (split j) (sym (sorted-length xs) j) ys)
    ∙ entered_all_lem (sorted xs) t ys (sorted-ordered xs) (omega (arith, d))
    ∙ (λ j. words_of (added-sorted xs ys j) ++ drop-drop (3 * length ys) n w j)
    ∙ ap (λ (k : ℕ). s ++ drop k w) m
    ∙ sym (overlay-eq w 0 s r)
