use Rattle.wire.proofs.Basics.{◌∙◌, sym, ◌≡◌, ap, refl, ℕ, ◌+◌, ◌<◌, suc, length, drop, get_or, set, length-set, drop_of_length-le, sets, drop-cons, pos, arith}
use Rattle.lmcp.proofs.Sizes.{through}
use Rattle.mark_rows.proofs.put_numbers.Goals as goal

pub loop-i-init : goal.loop-i-init
loop-i-init c =
    let a = c.args in
    let z : a.q + 0 ≡ a.q = omega arith in
    (refl, ap (λ (k : ℕ). sets a.rows.now k a.src.now) z)

pub loop-i-preserved : goal.loop-i-preserved
loop-i-preserved c =
    let a = c.args in
    let i = c.loop-i.i in
    let h : i < length a.src.now = c.loop-i-test.true in
    let v = get_or a.src.now i (pos 0) in
    let same = through v (record { sfits = omega arith }) in
    let p : a.q + (i + 1) ≡ suc (a.q + i) = omega arith in
    let n : i + 1 ≡ suc i = omega arith in (
      length-set c.loop-i.rows (a.q + i) _ ∙ c.loop-i.invariant.0,
      (λ j. sets (set c.loop-i.rows (a.q + i) (same j)) (p j) (drop (n j) a.src.now)) ∙ (sym (ap (sets c.loop-i.rows (a.q + i)) (drop-cons a.src.now i (pos 0) h)) ∙ c.loop-i.invariant.1),
    )

pub returns : goal.returns
returns c =
    let l = c.loop-i in
    let a = c.args in
    sym (ap (sets l.rows (a.q + l.i)) (drop_of_length-le a.src.now c.loop-i-test.false)) ∙ l.invariant.1
