-- The words move up, and the row goes in front of them. Assumes nothing.
use Rattle.wire.proofs.Basics.{◌∙◌, ◌≡◌, ap, ℕ, ◌+◌, ◌-◌, ◌*◌, List, drop, set, arith}
use lib.Seq.{paste}
use Rattle.log_index.specs.Inside.{moved_up}
use Rattle.log_index.proofs.Moves.{moved, moved_row}
use Rattle.log_index.proofs.insert.Goals as goal

pub returns : goal.returns
returns c =
    let a = c.args in
    let f : ℕ = 3 * (a.at + a.k) in
    let e : f + 3 ≡ 3 * a.at + (3 * a.k + 3) = omega arith in
    let m : c.copy_within.new.self ≡ moved_up a.index.now (3 * a.at) (3 * a.n) (3 * a.k + 3) =
    c.copy_within.ensures.after
    ∙ ap (λ (d : ℕ). paste a.index.now d (drop (3 * a.at) a.index.now) (3 * a.n - 3 * a.at)) e
    ∙ moved a.index.now (3 * a.at) (3 * a.n) (3 * a.k + 3) (omega arith) (omega arith) in
    ap (λ (v : List ℕ). set (set (set v (f + 2) a.row.place) (f + 1) a.row.sequence) f a.row.sender) m ∙ moved_row a.index.now a.at a.n a.k _
