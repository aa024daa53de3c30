-- How long a packet is, or why there is none. Assumes nothing.
use Rattle.wire.proofs.Basics.{◌∙◌, sym, ◌+◌, length, arith}
use Rattle.std.proofs.lemmas.Result.{err_from_is_err_and}
use Rattle.moss.specs.Limits.{head_length}
use Rattle.moss.proofs.Once.{some-number}
use Rattle.moss_writer.proofs.Plans.{written-long, written-fault, written-good, room-short, room-enough}
use Rattle.moss_writer.proofs.plan.Goals as goal

pub returns-then-blocks : goal.returns-then-blocks
returns-then-blocks c = let a = c.args in
    sym (written-long a.kind a.blocks.now a.room (omega arith))

pub returns-in_err-block_fault : goal.returns-in_err-block_fault
returns-in_err-block_fault c =
    let a = c.args in
    let p = err_from_is_err_and c.from_residual.result c.from_residual.ensures.1 in
    let e = c.in_err-block_fault.ensures in
    rw (p.1, p.2) (sym (written-fault a.kind a.blocks.now a.room (omega arith) _ (sym e) (some-number _)))

pub returns-then-room-n : goal.returns-then-room-n
returns-then-room-n c =
    let a = c.args in
    sym (written-good a.kind a.blocks.now a.room (omega arith) (sym c.in_ok-block_fault.ensures)
    ∙ room-short (head_length + length a.blocks.now) a.room c.if-room-n.true)

pub returns : goal.returns
returns c =
    let a = c.args in
    sym (written-good a.kind a.blocks.now a.room (omega arith) (sym c.in_ok-block_fault.ensures)
    ∙ room-enough (head_length + length a.blocks.now) a.room c.if-room-n.false)
