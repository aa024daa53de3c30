use Rattle.wire.proofs.Basics.{◌≡◌, ap, refl, ℕ, ◌≤◌, suc, length, get_or, arith}
use Rattle.output.proofs.Adding.{adds_none, adds_then, adds_is, adds_shut}
use Rattle.count_lines.specs.Lines.{refused_line, refused_lines}
use Rattle.count_lines.proofs.OneLineMore.{refused-more}
use Rattle.count_lines.proofs.pour_refusals.Goals as goal

pub loop-number-init : goal.loop-number-init
loop-number-init c = adds_none c.args.out.now

pub returns-then-is_closed : goal.returns-then-is_closed
returns-then-is_closed c =
    let x = c.loop-number in
    let refused = c.args.refused.now in
    let k : suc x.number ≤ length refused = omega (arith, c.loop-number-test.true) in
    adds_shut (λ j. refused_lines j refused) (λ j. refused_line j (get_or refused j 0)) (λ j. refl) {i = suc x.number} (c.if-is_closed.ensures.0 refl) k (adds_then x.invariant c.pour_refused.ensures)

pub loop-number-preserved : goal.loop-number-preserved
loop-number-preserved c = adds_is (adds_then c.loop-number.invariant c.pour_refused.ensures) (refused-more c.loop-number.number c.args.refused.now)

pub returns : goal.returns
returns c =
    let e : c.loop-number.number ≡ length c.args.refused.now = omega arith in
    adds_is c.loop-number.invariant (ap (λ (k : ℕ). refused_lines k c.args.refused.now) e)
