use Rattle.wire.proofs.Basics.{◌∙◌, sym, ◌≡◌, ap, refl, ℕ, length, drop, take, length-take, take-length, arith}
use Rattle.text.specs.Text.{hex}
use Rattle.output.proofs.Sending.{pours-none, pours-then, pours-is, hex-more}
use Rattle.output.proofs.pour_hex.Goals as goal

pub loop-i-init : goal.loop-i-init
loop-i-init c = let a = c.args in (omega arith, refl, pours-none a.out.now a.at)

pub pour_piece-next-requires : goal.pour_piece-next-requires
pour_piece-next-requires c =
    let s = c.args.bytes.now in
    let n : ℕ = c.least-k.result in
    omega (arith, ap length c.part.ensures, length-take n (drop c.loop-i.i s), c.least-k.ensures)

pub loop-i-preserved : goal.loop-i-preserved
loop-i-preserved c =
    let s = c.args.bytes.now in
    let i : ℕ = c.loop-i.i in
    let n : ℕ = c.least-k.result in (
      omega (arith, c.least-k.ensures),
      c.pour_piece-next.auto.out ∙ c.loop-i.invariant.1,
      pours-is (pours-then c.loop-i.invariant.2 (pours-is c.pour_piece-next.ensures (ap hex c.part.ensures))) (sym (hex-more s i n)),
    )

pub returns : goal.returns
returns c =
    let s = c.args.bytes.now in
    let e : c.loop-i.i ≡ length s = omega (arith, c.loop-i-test.false, c.loop-i.invariant.0) in
    pours-is c.loop-i.invariant.2 (ap (λ (k : ℕ). hex (take k s)) e ∙ ap hex (take-length s))
