use Rattle.wire.proofs.Basics.{◌∙◌, sym, ◌≡◌, ap, ℕ, length, take, take-length, arith}
use Rattle.text.specs.Text.{hex}
use Rattle.text.proofs.Puts.{put-nothing, put_then, put_is}
use Rattle.text.proofs.Texts.{hex-turn}
use Rattle.text.proofs.put_hex.Goals as goal

pub loop-b-init : goal.loop-b-init
loop-b-init c =
    let a = c.args in put-nothing a.out.now a.at c.min-next.result c.min-next.ensures

pub loop-b-preserved : goal.loop-b-preserved
loop-b-preserved c =
    put_is (put_then c.loop-b.invariant c.put_pair-next.ensures) (sym (hex-turn c.args.bytes.now c.loop-b.b-index c.loop-b-test.true))

pub returns : goal.returns
returns c =
    let s = c.args.bytes.now in
    let e : c.loop-b.b-index ≡ length s = omega arith in
    put_is c.loop-b.invariant (ap (λ (k : ℕ). hex (take k s)) e ∙ ap hex (take-length s))
