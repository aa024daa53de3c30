use Rattle.wire.proofs.Basics.{◌∙◌, ◌≡◌, sym, ap, rules, arith}
use Rattle.wire.specs.Bytes.{Bytes}
use Rattle.refusals.specs.Numbers.{number_of}
use Rattle.receiver.specs.Lent.{world_in}
use Rattle.receiver_state.proofs.Unique.{shaped-still}
use Rattle.flight_log.specs.Step.{step_told, Found, End, Refused}
use Rattle.flight_log.proofs.EntriesPassed.{ahead}
use Rattle.output.specs.Output.{IsClosed}
use Rattle.output.proofs.Adding.{ends_shut, ends_is}
use Rattle.replay_log.specs.Inside.{lent_in}
use Rattle.replay_log.proofs.Replaying.{stays_none, stays_then, heard_said, heard_left, going-none, going_more, going_end, going-shut, from_limits}
use Rattle.replay_log.proofs.Replay.replay.Goals as goal

pub loop-step-init : goal.loop-step-init
loop-step-init c =
    let r = c.args.self.now in
    (stays_none r, going-none c.args.log.now r.limits (world_in (lent_in r)) c.args.out.now (λ i. (c.type_inv.log i).fits))

pub returns-in-Ok-None : goal.returns-in-Ok-None
returns-in-Ok-None c =
    let b : Bytes c.args.log.now = λ i. (c.type_inv.log i).fits in
    let x : step_told c.read_on-step.result ≡ End = search rules in
    ends_is (going_end b c.loop-step.invariant.1 (step_told c.read_on-step.result) (sym c.read_on-step.ensures) (λ e q. let z : End ≡ Found e = sym x ∙ q in cc) c.finish.ensures)
    (from_limits c.args.log.now (world_in (lent_in c.args.self.now)) c.requires.limits)

pub returns-in-Err : goal.returns-in-Err
returns-in-Err c =
    let b : Bytes c.args.log.now = λ i. (c.type_inv.log i).fits in
    let x = ap step_told c.in-Err.is in
    ends_is (going_end b c.loop-step.invariant.1 (step_told c.read_on-step.result) (sym c.read_on-step.ensures) (λ e q. let z : Refused (number_of c.in-Err.field-0) ≡ Found e = sym x ∙ q in cc) c.finish-in-Err.ensures)
    (from_limits c.args.log.now (world_in (lent_in c.args.self.now)) c.requires.limits)

pub overflow_add-n : goal.overflow_add-n
overflow_add-n c =
    let b : Bytes c.args.log.now = λ i. (c.type_inv.log i).fits in
    let x : step_told c.read_on-step.result ≡ Found c.in-Ok-Some.entry = search rules in
    let v = c.loop-step.invariant.1 in
    let h = ahead c.args.log.now b _ c.loop-step.place (sym c.read_on-step.ensures ∙ x) in
    record { fits = omega (arith, v.count, v.passed.fewer, v.passed.within, h.on, h.within) }

pub loop-step-smaller : goal.loop-step-smaller
loop-step-smaller c =
    let b : Bytes c.args.log.now = λ i. (c.type_inv.log i).fits in
    let x : step_told c.read_on-step.result ≡ Found c.in-Ok-Some.entry = search rules in
    let h = ahead c.args.log.now b _ c.loop-step.place (sym c.read_on-step.ensures ∙ x) in
    omega (arith, h.on, h.within)

pub loop-step-preserved : goal.loop-step-preserved
loop-step-preserved c =
    let b : Bytes c.args.log.now = λ i. (c.type_inv.log i).fits in
    let x : step_told c.read_on-step.result ≡ Found c.in-Ok-Some.entry = search rules in
    let i = c.loop-step.invariant.0 in
    let r = c.args.self.now in
    let y = shaped-still r.state.now r.names.now c.loop-step.self.state.now c.loop-step.self.names.now i.state i.names c.requires.shaped in (
      stays_then i c.hear.ensures.stays,
      going_more b c.loop-step.invariant.1 _ (sym c.read_on-step.ensures ∙ x) (heard_left i y c.hear.ensures.heard) (heard_said i y c.hear.ensures.heard),
    )

pub returns : goal.returns
returns c =
    let b : Bytes c.args.log.now = λ i. (c.type_inv.log i).fits in
    let e : IsClosed c.loop-step.out = search rules in
    ends_is (ends_shut e (going-shut b c.loop-step.invariant.1 e))
    (from_limits c.args.log.now (world_in (lent_in c.args.self.now)) c.requires.limits)
