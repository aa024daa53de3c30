use Rattle.wire.proofs.Basics.{◌∙◌, sym, ◌≡◌, ap, subst, ℕ, ◌+◌, ◌-◌, ◌%◌, ◌^◌, ◌<◌, List, length, get_or, drop, get_or-drop, length-drop, arith}
use Rattle.wire.proofs.Parts.{part-rest}
use Rattle.checksum.specs.InsideStrides.{Summed}
use Rattle.checksum.proofs.Strides.{sum-byte, summed-more, summed-all}
use Rattle.checksum.proofs.sum_on.Goals as goal

pub loop-x-init : goal.loop-x-init
loop-x-init c = let e : c.args.from ≡ c.args.from + 0 = omega arith in subst (λ (i : ℕ). Summed c.args.b.now i c.args.before) e c.requires

pub loop-x-preserved : goal.loop-x-preserved
loop-x-preserved c =
    let b = c.args.b.now in
    let i = c.loop-x.x-index in
    let at = c.args.from + i in
    let l : length (drop c.args.from b) ≡ length b - c.args.from = length-drop c.args.from b in
    let h : at < length b = omega (arith, ap length (part-rest b c.args.from)) in
    let x : c.wide.result ≡ get_or b at 0 = c.wide.ensures.0 ∙ ap (λ (s : List ℕ). get_or s i 0) (part-rest b c.args.from) ∙ get_or-drop c.args.from b i 0 in
    let e : at + 1 ≡ c.args.from + (i + 1) = omega arith in
    subst (λ (k : ℕ). Summed b k ((c.loop-x.t + c.wide.result) % 2 ^ 32)) e
    (summed-more b at 1 c.loop-x.t _ c.loop-x.invariant (omega arith) (x ∙ sym (sum-byte b at h)))

pub returns : goal.returns
returns c =
    let b = c.args.b.now in
    let l : length (drop c.args.from b) ≡ length b - c.args.from = length-drop c.args.from b in
    summed-all b (c.args.from + c.loop-x.x-index) _ c.loop-x.invariant (omega (arith, ap length (part-rest b c.args.from)))
