-- `host_flight::watching::put_each` meets its contract. Assumes nothing.
use Rattle.wire.proofs.Basics.{◌∙◌, sym, ◌≡◌, ap, refl, ℕ, ◌+◌, suc, length-set, set, take, take_all, arith}
use Rattle.wire.specs.Overlay.{overlay}
use Rattle.host_flight.proofs.OneByOne.{laid_none, laid-next}
use Rattle.host_flight.proofs.watching.put_each.Goals as goal

pub loop-i-init : goal.loop-i-init
loop-i-init g c = (refl, sym (laid_none c.args.out.now))

pub loop-i-preserved : goal.loop-i-preserved
loop-i-preserved g c =
    let l = c.loop-i in
    let d = c.args.out.now in
    let s = c.args.src.now in
    let x = c.index-src-i.result in
    let e : suc l.i ≡ l.i + 1 = omega arith in (
      simp length-set l.invariant.0,
      ap (λ w. set w l.i x) l.invariant.1 ∙ (laid-next d s l.i x c.loop-i-test.true c.requires c.index-src-i.is ∙ ap (λ (k : ℕ). overlay d 0 (take k s)) e),
    )

pub returns : goal.returns
returns g c = c.loop-i.invariant.1 ∙ ap (overlay c.args.out.now 0) (take_all c.loop-i.i c.args.src.now c.loop-i-test.false)
