use Rattle.wire.proofs.Basics.{◌∙◌, ◌≡◌, ap, [], ◌∷◌, ◌++◌, length, get_or, take, take-length, ℕ, ℤ, pos, arith}
use mir.Syntax.{w64}
use mir.ValLaws.{to_z-of_z}
use Rattle.text.specs.Text.{signed_decimal}
use Rattle.output.proofs.Adding.{adds_none, adds_then, adds_is}
use Rattle.lmcp_list.specs.Lines.{spaced}
use Rattle.lmcp_list.proofs.Spaced.{spaced-turn}
use Rattle.lmcp_list.proofs.pour_numbers.Goals as goal

pub loop-z-init : goal.loop-z-init
loop-z-init c = adds_none c.args.out.now

pub loop-z-preserved : goal.loop-z-preserved
loop-z-preserved c =
    let s = c.args.list.now in
    let i = c.loop-z.z-index in
    adds_is (adds_then (adds_then c.loop-z.invariant c.pour.ensures) c.pour_signed.ensures)
    (ap (λ (z : ℤ). spaced (take i s) ++ 32 ∷ [] ++ signed_decimal z) (to_z-of_z w64 (get_or s i (pos 0)) (record { sfits = c.pour_signed-arg-in-loop-z-1.given })) ∙ spaced-turn s i c.loop-z-test.true)

pub returns : goal.returns
returns c =
    let s = c.args.list.now in
    let e : c.loop-z.z-index ≡ length s = omega (arith, c.loop-z.auto.z-index-end, c.loop-z-test.false) in
    adds_is c.loop-z.invariant (ap (λ (k : ℕ). spaced (take k s)) e ∙ ap spaced (take-length s))
