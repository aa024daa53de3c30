-- By what the reader answers. Assumes nothing.
use Rattle.wire.proofs.Basics.{sym, ap, length-take-le}
use Rattle.lmcp.specs.Found.{found_told}
use Rattle.pit_marks.specs.Told.{sets_in}
use Rattle.pit_payloads.proofs.PayloadCases.{fewer, payload-read-to, payload-unread-to}
use Rattle.pit_payloads.proofs.take_payload.Goals as goal

pub slice_bounds-enter_numbers-end : goal.slice_bounds-enter_numbers-end
slice_bounds-enter_numbers-end c =
    let a = c.args in
    fewer a.payload.now a.numbers.now _ (found_told c.read_message.result) c.read_message.ensures _ (ap found_told c.in-Ok.is) c.read_message.auto.list

pub slice_bounds-enter_numbers-end-in-Ok : goal.slice_bounds-enter_numbers-end-in-Ok
slice_bounds-enter_numbers-end-in-Ok c =
    let a = c.args in
    sym (length-take-le _ _ (fewer a.payload.now a.numbers.now _ (found_told c.read_message.result) c.read_message.ensures _ (ap found_told c.in-Ok.is) c.read_message.auto.list))

pub returns-in-Ok-clause-looks : goal.returns-in-Ok-clause-looks
returns-in-Ok-clause-looks c =
    let a = c.args in
    payload-read-to a.payload.now a.numbers.now _ (found_told c.read_message.result) c.read_message.ensures (sets_in a.sets.now) a.sets.now.sizes _ _ (ap found_told c.in-Ok.is) _ c.enter_numbers.ensures.left

pub returns-in-Err-clause-looks : goal.returns-in-Err-clause-looks
returns-in-Err-clause-looks c =
    let a = c.args in
    payload-unread-to a.payload.now a.numbers.now _ (found_told c.read_message.result) c.read_message.ensures (sets_in a.sets.now) a.sets.now.sizes _ _ (ap found_told c.in-Err.is) (c.unread.ensures a.sets.now.sizes)
