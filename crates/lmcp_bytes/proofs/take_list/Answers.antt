use Rattle.wire.proofs.Basics.{◌∙◌, ◌≡◌, ap, refl, ℕ, ◌/◌, List, length, set, sets, ℤ, arith}
use mir.Syntax.{w64}
use mir.Val.{to_z, of_z}
use mir.ValLaws.{to_z-of_z}
use Rattle.wire.specs.Signed.{signed}
use Rattle.lmcp_bytes.specs.Lines.{numbers_of}
use Rattle.record_lines.proofs.BodyNumbers.{taken-one}
use Rattle.lmcp_bytes.proofs.take_list.Goals as goal

pub loop-i-preserved : goal.loop-i-preserved
loop-i-preserved c =
    let b = c.args.body.now in
    let z : ℤ = to_z w64 (of_z w64 c.signed_of-z.result) in
    let e = to_z-of_z w64 c.signed_of-z.result (record { sfits = c.signed_of-z.type_inv }) ∙ c.signed_of-z.ensures ∙ ap (signed 64) c.number.ensures.value in
    ap (λ (x : List ℤ). set x c.loop-i.i z) c.loop-i.invariant ∙ taken-one (signed 64) c.args.list.now c.loop-i.i b z e

pub returns : goal.returns
returns c =
    let a = c.args in
    let e : c.loop-i.i ≡ length a.body.now / 8 = omega arith in
    (refl, c.loop-i.invariant ∙ ap (λ (k : ℕ). sets a.list.now 0 (numbers_of k a.body.now)) e)
