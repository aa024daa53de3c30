use Rattle.wire.proofs.Basics.{◌∙◌, ◌≡◌, ap, refl, ◌/◌, List, ℕ, length, set, sets, arith}
use Rattle.record_lines.proofs.BodyNumbers.{taken-one}
use Rattle.ack_bytes.specs.Lines.{numbers_of}
use Rattle.ack_bytes.proofs.take_list.Goals as goal

pub loop-i-preserved : goal.loop-i-preserved
loop-i-preserved c =
    let a = c.args in
    let l = c.loop-i in
    let b = a.body.now in
    ap (λ (x : List ℕ). set x l.i c.number.result) l.invariant ∙ taken-one (λ x. x) a.list.now l.i b c.number.result c.number.ensures.value

pub returns : goal.returns
returns c =
    let a = c.args in
    let l = c.loop-i in
    let e : l.i ≡ length a.body.now / 8 = omega arith in
    (refl, l.invariant ∙ ap (λ (k : ℕ). sets a.list.now 0 (numbers_of k a.body.now)) e)
