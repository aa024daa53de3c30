-- `receiver::settle` meets its contract. Assumes nothing.
use Rattle.wire.proofs.Basics.{subst}
use Rattle.receiver.specs.declared.Plan.{Plan}
use Rattle.receiver.specs.Inside.{Able}
use Rattle.receiver.proofs.Settling.{settled-refuse, settled-again, settled-deliver, settled-hold}
use Rattle.receiver.proofs.settle.Goals as goal

pub small-requires : goal.small-requires
small-requires c =
    let args = c.args in
    let able = subst (λ (p : Plan). Able args.state.now args.names.now args.d.now p) c.in-Deliver.is c.requires in
    (able.0.shape.words, able.1, able.2)

pub put-requires : goal.put-requires
put-requires c =
    let args = c.args in
    let able = subst (λ (p : Plan). Able args.state.now args.names.now args.d.now p) c.in-Hold.is c.requires in
    (able.2, able.0, able.1)

pub returns-in-Refuse : goal.returns-in-Refuse
returns-in-Refuse c =
    let args = c.args in
    settled-refuse args.state.now args.names.now args.sender args.d.now args.plan _ _ c.in-Refuse.is c.stay.ensures

pub returns-in-Again : goal.returns-in-Again
returns-in-Again c =
    let args = c.args in
    settled-again args.state.now args.names.now args.sender args.d.now args.plan _ c.in-Again.is c.stay-in-Again.ensures

pub returns-in-Deliver : goal.returns-in-Deliver
returns-in-Deliver c =
    let args = c.args in
    settled-deliver args.state.now args.names.now args.sender args.d.now args.plan _ _ _ c.in-Deliver.is c.small.ensures

pub returns-in-Hold : goal.returns-in-Hold
returns-in-Hold c =
    let args = c.args in
    settled-hold args.state.now args.names.now args.sender args.d.now args.plan _ _ _ _ _ c.in-Hold.is c.put.ensures
