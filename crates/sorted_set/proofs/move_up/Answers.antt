-- `sorted_set::move_up` meets its contract: what goes to the array comes out of it. Assumes nothing.
use Rattle.wire.proofs.Basics.{◌∙◌, ap, ℕ, ◌≤◌, ◌+◌, List, length, drop, take, length-drop, replicate, length-replicate, arith}
use Rattle.wire.specs.Overlay.{overlay}
use Rattle.wire.proofs.Overlays.{overlay-front}
use Rattle.sorted_set.proofs.move_up.Goals as goal

pub returns : goal.returns
returns c =
    let a = c.args in
    let zeros = replicate {A = ℕ} 2048 0 in
    let roomy : a.n ≤ length zeros = rw (length-replicate {A = ℕ} 2048 0) (omega arith) in
    let long : a.n ≤ length (drop a.from a.w.now) = rw (length-drop a.from a.w.now) (omega arith) in
    c.put_part-2.ensures
    ∙ (ap (λ (t : List ℕ). overlay a.w.now (a.from + 1) (take a.n (drop 0 t))) c.put_part.ensures
    ∙ ap (overlay a.w.now (a.from + 1)) (overlay-front zeros (drop a.from a.w.now) a.n roomy long))
