use Rattle.wire.proofs.Basics.{◌∙◌, sym, ◌≡◌, arith}
use Rattle.steps.specs.Limits.{slot_count}
use Rattle.receiver.proofs.Forgetting.{released-none, released-more}
use Rattle.receiver.proofs.release_all.Goals as goal

pub loop-i-init : goal.loop-i-init
loop-i-init c =
    let args = c.args in
    released-none args.state.now args.names.now args.sender c.requires

pub release_one-requires : goal.release_one-requires
release_one-requires c =
    let loop = c.loop-i in
    (omega arith, loop.invariant.shape)

pub loop-i-preserved : goal.loop-i-preserved
loop-i-preserved c =
    let args = c.args in
    released-more args.state.now args.names.now c.loop-i.state c.loop-i.names _ _ args.sender c.loop-i.i c.loop-i.invariant c.release_one.ensures

pub shape_of-state : goal.shape_of-state
shape_of-state c =
    c.loop-i.invariant.shape.words ∙ sym c.requires.words

pub shape_of-names : goal.shape_of-names
shape_of-names c =
    c.loop-i.invariant.shape.bytes ∙ sym c.requires.bytes

pub returns : goal.returns
returns c =
    let loop = c.loop-i in
    let e : loop.i ≡ slot_count = omega arith in
    rw e at loop.invariant
