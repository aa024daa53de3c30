-- Words moved up by a row, and a row put in front of them. Assumes nothing.
use Rattle.wire.proofs.Basics.{◌∙◌, sym, ◌≡◌, ap, ℕ, ◌≤◌, ◌+◌, ◌-◌, ◌*◌, List, [], ◌∷◌, ◌++◌, length, drop, take, set, length-take-le, length-drop, arith}
use lib.Seq.{paste}
use Rattle.wire.specs.Overlay.{overlay}
use Rattle.wire.proofs.Overlays.{overlay-one, overlay-append, overlay-apart, overlay-eq, length-overlay}
use Rattle.log_index.specs.Words.{inserted}
use Rattle.log_index.specs.Inside.{moved_up}
use Rattle.log_index.specs.Rows.{Row}

-- one more word in front
pub front : (w t : List ℕ) (at x : ℕ) → set (overlay w (at + 1) t) at x ≡ overlay w at (x ∷ t)
front w t at x =
    sym (overlay-one (overlay w (at + 1) t) at x)
    ∙ sym (overlay-apart w at (at + 1) (x ∷ []) t (omega arith))
    ∙ sym (overlay-append w at (x ∷ []) t)

-- as std moves them
pub moved : (w : List ℕ) (from to by : ℕ) → from ≤ to → to + by ≤ length w → paste w (from + by) (drop from w) (to - from) ≡ moved_up w from to by
moved w from to by h l =
    let s : List ℕ = take (to - from) (drop from w) in
    let n : length s ≡ to - from = length-take-le (to - from) (drop from w) (rw length-drop (omega arith)) in
    sym (overlay-eq w (from + by) s (omega (arith, n)) ∙ ap (λ (k : ℕ). take (from + by) w ++ s ++ drop (from + by + k) w) n)

pub moved_length : (w : List ℕ) (from to by : ℕ) → length (moved_up w from to by) ≡ length w
moved_length w from to by = length-overlay w (from + by) (take (to - from) (drop from w))

-- the row goes in front of the words that moved
pub moved_row : (w : List ℕ) (at n k : ℕ) (r : Row)
    → set (set (set (moved_up w (3 * at) (3 * n) (3 * k + 3)) (3 * (at + k) + 2) r.place) (3 * (at + k) + 1) r.sequence) (3 * (at + k)) r.sender ≡ inserted w at n k r
unfolding inserted
moved_row w at n k r =
    let f : ℕ = 3 * (at + k) in
    let t : List ℕ = take (3 * n - 3 * at) (drop (3 * at) w) in
    let a : 3 * at + (3 * k + 3) ≡ f + 2 + 1 = omega arith in
    let b : f + 2 ≡ f + 1 + 1 = omega arith in
    let x : set (overlay w (3 * at + (3 * k + 3)) t) (f + 2) r.place ≡ overlay w (f + 1 + 1) (r.place ∷ t) =
    (λ j. set (overlay w (a j) t) (f + 2) r.place) ∙ front w t (f + 2) r.place ∙ (λ j. overlay w (b j) (r.place ∷ t)) in
    let y = ap (λ (v : List ℕ). set v (f + 1) r.sequence) x ∙ front w (r.place ∷ t) (f + 1) r.sequence in
    ap (λ (v : List ℕ). set v f r.sender) y ∙ front w (r.sequence ∷ r.place ∷ t) f r.sender

pub inserted-length : (w : List ℕ) (at n k : ℕ) (r : Row) → length (inserted w at n k r) ≡ length w
unfolding inserted
inserted-length w at n k r = length-overlay w (3 * (at + k)) (r.sender ∷ r.sequence ∷ r.place ∷ take (3 * n - 3 * at) (drop (3 * at) w))
