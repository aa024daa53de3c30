use Rattle.wire.proofs.Basics.{◌∙◌, ◌≡◌, sym, ap, rules, arith}
use Rattle.refusals.specs.Numbers.{number_of}
use Rattle.wire.specs.Bytes.{Bytes}
use Rattle.flight_log.specs.Step.{step_told, Found, End, Refused}
use Rattle.flight_log.proofs.EntriesPassed.{ahead}
use Rattle.output.specs.Output.{IsClosed}
use Rattle.output.proofs.Adding.{ends_shut}
use Rattle.log_list.proofs.Listing.{going-none, going_more, going_end, going-shut}
use Rattle.log_list.proofs.listed.Goals as goal

pub loop-step-init : goal.loop-step-init
loop-step-init c = going-none c.args.log.now c.args.out.now (λ i. (c.type_inv.log i).fits)

pub returns-in-Ok-None : goal.returns-in-Ok-None
returns-in-Ok-None c =
    let b : Bytes c.args.log.now = λ i. (c.type_inv.log i).fits in
    let x : step_told c.read_on-step.result ≡ End = search rules in
    going_end b c.loop-step.invariant (step_told c.read_on-step.result) (sym c.read_on-step.ensures) (λ e q. let z : End ≡ Found e = sym x ∙ q in cc) c.finish.ensures

pub returns-in-Err : goal.returns-in-Err
returns-in-Err c =
    let b : Bytes c.args.log.now = λ i. (c.type_inv.log i).fits in
    let x = ap step_told c.in-Err.is in
    going_end b c.loop-step.invariant (step_told c.read_on-step.result) (sym c.read_on-step.ensures) (λ e q. let z : Refused (number_of c.in-Err.field-0) ≡ Found e = sym x ∙ q in cc) c.finish-in-Err.ensures

pub overflow_add-n : goal.overflow_add-n
overflow_add-n c =
    let b : Bytes c.args.log.now = λ i. (c.type_inv.log i).fits in
    let x : step_told c.read_on-step.result ≡ Found c.in-Ok-Some.entry = search rules in
    let v = c.loop-step.invariant in
    let h = ahead c.args.log.now b _ c.loop-step.place (sym c.read_on-step.ensures ∙ x) in
    record { fits = omega (arith, v.count, v.passed.fewer, v.passed.within, h.on, h.within) }

pub loop-step-smaller : goal.loop-step-smaller
loop-step-smaller c =
    let b : Bytes c.args.log.now = λ i. (c.type_inv.log i).fits in
    let x : step_told c.read_on-step.result ≡ Found c.in-Ok-Some.entry = search rules in
    let h = ahead c.args.log.now b _ c.loop-step.place (sym c.read_on-step.ensures ∙ x) in
    omega (arith, h.on, h.within)

pub loop-step-preserved : goal.loop-step-preserved
loop-step-preserved c =
    let b : Bytes c.args.log.now = λ i. (c.type_inv.log i).fits in
    let x : step_told c.read_on-step.result ≡ Found c.in-Ok-Some.entry = search rules in
    going_more b c.loop-step.invariant _ (sym c.read_on-step.ensures ∙ x) c.pour_entry.ensures

pub returns : goal.returns
returns c =
    let b : Bytes c.args.log.now = λ i. (c.type_inv.log i).fits in
    let e : IsClosed c.loop-step.out = search rules in
    ends_shut e (going-shut b c.loop-step.invariant e)
