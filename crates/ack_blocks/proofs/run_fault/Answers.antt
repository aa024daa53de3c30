-- Last below first. Assumes nothing.
use Rattle.wire.proofs.Basics.{drop, le-ltb, lt-ltb, arith}
use Rattle.ack_blocks.specs.Read.{first_in, last_in}
use Rattle.ack_blocks.proofs.run_fault.Goals as goal

pub returns-then-field : goal.returns-then-field
returns-then-field c =
    let a = c.args in
    let s = drop a.at a.b.now in
    rw (lt-ltb (last_in s) (first_in s) (omega (arith, c.field-2.ensures.0, c.field.ensures.0)))

pub returns : goal.returns
returns c =
    let a = c.args in
    let s = drop a.at a.b.now in
    rw (le-ltb (last_in s) (first_in s) (omega (arith, c.field-2.ensures.0, c.field.ensures.0)))
