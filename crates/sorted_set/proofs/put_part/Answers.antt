use Rattle.wire.proofs.Basics.{sym, ◌≡◌, refl, ◌<◌, length, drop, length-drop, length-set, get_or-drop, arith}
use Rattle.wire.proofs.Overlays.{overlay-nil, overlay-turn}
use Rattle.sorted_set.proofs.put_part.Goals as goal

pub loop-i-init : goal.loop-i-init
loop-i-init c = (omega arith, refl, sym (overlay-nil c.args.out.now c.args.at))

pub loop-i-preserved : goal.loop-i-preserved
loop-i-preserved c =
    let l = c.loop-i in
    let a = c.args in
    let s = drop a.from a.src.now in
    let o : l.i < length s = rw (length-drop a.from a.src.now) (omega arith) in
    (omega arith, simp length-set l.invariant.1, rw (l.invariant.2, sym (get_or-drop a.from a.src.now l.i 0)) (overlay-turn a.out.now a.at s l.i o))

pub returns : goal.returns
returns c =
    let e : c.loop-i.i ≡ c.args.n = omega arith in
    rw e at c.loop-i.invariant.2
