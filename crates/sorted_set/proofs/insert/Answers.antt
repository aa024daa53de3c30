use Rattle.wire.proofs.Basics.{◌∙◌, sym, ◌≡◌, ap, refl, ℕ, ◌+◌, ◌-◌, List, drop, take, arith, rules}
use Rattle.wire.specs.Overlay.{overlay}
use Rattle.sorted_set.proofs.Moves.{moved, moved_none, moved-block, placed}
use Rattle.sorted_set.proofs.insert.Goals as goal

pub loop-i-init : goal.loop-i-init
loop-i-init c =
    let a = c.args in
    (omega arith, omega arith, refl, sym (moved_none a.w.now a.n (omega arith)))

pub overflow_sub-i-in-loop-i : goal.overflow_sub-i-in-loop-i
overflow_sub-i-in-loop-i c =
    let e = c.least-k.ensures in
    let l = c.loop-i in
    search rules

pub move_up-requires : goal.move_up-requires
move_up-requires c =
    let e = c.least-k.ensures in
    let l = c.loop-i in
    let v = l.invariant.2 in
    (omega arith, omega arith)

pub loop-i-smaller : goal.loop-i-smaller
loop-i-smaller c =
    let e = c.least-k.ensures in
    omega arith

pub loop-i-preserved : goal.loop-i-preserved
loop-i-preserved c =
    let k = c.least-k.result in
    let e = c.least-k.ensures in
    let l = c.loop-i in
    let a = c.args in
    let j = l.i - k in
    let z : j + k ≡ l.i = omega arith in
    let s : l.w ≡ moved a.w.now (j + k) a.n = l.invariant.3 ∙ ap (λ (i : ℕ). moved a.w.now i a.n) (sym z) in
    let q = c.move_up.ensures ∙ (ap (λ (v : List ℕ). overlay v (j + 1) (take k (drop j v))) s ∙ moved-block a.w.now j k a.n (omega arith) (omega arith)) in
    (omega arith, omega arith, c.w-1.given ∙ l.invariant.2, q)

pub returns : goal.returns
returns c =
    let a = c.args in
    let l = c.loop-i in
    let e : l.i ≡ a.at = omega arith in
    rw (l.invariant.3, e) (placed a.w.now a.at a.n a.x (omega arith) (omega arith))
