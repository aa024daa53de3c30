use Rattle.wire.proofs.Basics.{◌∙◌, sym, ap, arith}
use Rattle.find.specs.Numbers.{says}
use Rattle.find.proofs.Digits.{no-digits, some-digits, digits-next, digits-none, digits-end}
use Rattle.find.proofs.number_in.Goals as goal

pub returns-then-text-eq0 : goal.returns-then-text-eq0
returns-then-text-eq0 c = no-digits c.args.most c.args.text.now c.if-text-eq0.true

pub loop-x-init : goal.loop-x-init
loop-x-init c = some-digits c.args.most c.args.text.now c.if-text-eq0.false

pub returns-in_default : goal.returns-in_default
returns-in_default c =
    let a = c.args in
    let l = c.loop-x in
    let e = sym (ap says c.in_default.is) ∙ c.with_digit.ensures in
    digits-none a.most l.v a.text.now l.x-index (omega arith) e ∙ l.invariant

pub loop-x-preserved : goal.loop-x-preserved
loop-x-preserved c =
    let a = c.args in
    let l = c.loop-x in
    let e = sym (ap says c.in-Some.is) ∙ c.with_digit.ensures in
    digits-next a.most l.v a.text.now l.x-index (omega arith) _ e ∙ l.invariant

pub returns : goal.returns
returns c =
    let a = c.args in
    let l = c.loop-x in
    digits-end a.most l.v a.text.now l.x-index (omega arith) ∙ l.invariant
