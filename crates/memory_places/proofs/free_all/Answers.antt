use Rattle.wire.proofs.Basics.{◌∙◌, ◌≡◌, ap, length, arith}
use Rattle.steps.specs.Limits.{senders_most}
use Rattle.memory_places.proofs.Places.{freed-none, freed-more, freed-length}
use Rattle.memory_places.proofs.free_all.Goals as goal

pub loop-i-init : goal.loop-i-init
loop-i-init c = freed-none c.args.memory.now c.args.sender

pub loop-i-preserved : goal.loop-i-preserved
loop-i-preserved c =
    let a = c.args in
    let l = c.loop-i in
    freed-more a.memory.now l.memory _ a.sender l.i l.invariant c.free_at.ensures

pub shape_of-memory : goal.shape_of-memory
shape_of-memory c =
    let a = c.args in
    ap length c.loop-i.invariant ∙ freed-length a.memory.now a.sender c.loop-i.i

pub returns : goal.returns
returns c =
    let e : c.loop-i.i ≡ senders_most = omega arith in
    rw e at c.loop-i.invariant
