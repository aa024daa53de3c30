-- `receiver::receive` meets its contract. Assumes nothing.
use Rattle.receiver.proofs.Settling.{verdict-possible, plan-able, plan_storable, receives}
use Rattle.wire.proofs.Basics.{rules}
use Rattle.receiver.proofs.receive.Goals as goal

pub plan_for-plan-requires : goal.plan_for-plan-requires
plan_for-plan-requires c =
    let args = c.args in
    (args.d.now, verdict-possible args.state.now args.names.now args.store.now args.ledger.now args.sender args.d.now c.decide-verdict.result c.decide-verdict.ensures)

pub store_in-requires : goal.store_in-requires
store_in-requires c =
    let args = c.args in
    plan_storable args.state.now args.names.now args.store.now args.ledger.now args.sender args.d.now
    c.word-room.result c.decide-verdict.result c.plan_for-plan.result c.plan_for-plan.new.state c.plan_for-plan.new.names
    c.word-room.ensures c.decide-verdict.ensures c.plan_for-plan.ensures

pub settle-requires : goal.settle-requires
settle-requires c =
    let args = c.args in
    plan-able args.state.now args.names.now args.store.now args.ledger.now args.sender args.d.now
    c.decide-verdict.result c.plan_for-plan.result c.plan_for-plan.new.state c.plan_for-plan.new.names c.decide-verdict.ensures c.plan_for-plan.ensures

pub returns : goal.returns
returns c =
    let args = c.args in
    receives args.state.now args.names.now args.store.now args.ledger.now args.sender args.d.now
    c.word-room.result c.decide-verdict.result c.plan_for-plan.result c.settle.result c.plan_for-plan.new.state c.plan_for-plan.new.names _ _ _ _
    c.word-room.ensures c.decide-verdict.ensures c.plan_for-plan.ensures c.settle.ensures c.store_in.ensures.0 c.store_in.ensures.1
    (search rules) (search rules)
