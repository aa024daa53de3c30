use Rattle.wire.proofs.Basics.{sym, ◌≡◌, ap, refl, ℕ, ◌≤◌, suc, ◌++◌, add-one, rules, arith}
use Rattle.output.specs.Output.{IsClosed}
use Rattle.output.proofs.Adding.{adds_none, adds_then, adds_is, adds_stop, adds_shut, ends_then, ends_is, ends_shut}
use Rattle.log_index.specs.Words.{row_at}
use Rattle.log_lines.specs.Lines.{end_line}
use Rattle.index_lines.specs.Lines.{row_line}
use Rattle.index_list.specs.InsideLines.{lines_below}
use Rattle.index_list.proofs.listed.Goals as goal

pub loop-i-init : goal.loop-i-init
loop-i-init c = adds_none c.args.out.now

pub returns-then-is_closed : goal.returns-then-is_closed
returns-then-is_closed c =
    let a = c.args in
    let w = a.index.now in
    let k : suc c.loop-i.i ≤ a.n = omega (arith, c.loop-i-test.true) in
    let e : IsClosed c.pour_row.new.out = search rules in
    let v = adds_then c.loop-i.invariant (adds_is c.pour_row.ensures (ap row_line c.row_at.ensures)) in
    ends_shut e (adds_stop (end_line a.n) e (adds_shut (λ j. lines_below j w) (λ j. row_line (row_at w j)) (λ j. refl) {i = suc c.loop-i.i} e k v))

pub loop-i-preserved : goal.loop-i-preserved
loop-i-preserved c =
    let w = c.args.index.now in
    let v = adds_then c.loop-i.invariant (adds_is c.pour_row.ensures (ap row_line c.row_at.ensures)) in
    adds_is v (ap (λ (k : ℕ). lines_below k w) (sym (add-one c.loop-i.i)))

pub returns : goal.returns
returns c =
    let a = c.args in
    let w = a.index.now in
    let e : c.loop-i.i ≡ a.n = omega (arith, c.loop-i-test.false) in
    ends_is (ends_then c.loop-i.invariant c.finish.ensures) (ap (λ (k : ℕ). lines_below k w ++ end_line a.n) e)
