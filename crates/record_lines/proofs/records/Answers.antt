use Rattle.wire.proofs.Basics.{refl, arith, ap}
use Rattle.stream.specs.Records.{told}
use Rattle.record_lines.proofs.RecordLoop.{telling-none, telling-line, reached_end, reached-all, telling-shut}
use Rattle.record_lines.proofs.records.Goals as goal

pub loop-n-init : goal.loop-n-init
loop-n-init g c =
    let a = c.args in
    telling-none g.T.Teller.says a.kind a.buf.now a.input (g.T.Teller.known a.teller.now) a.out.now

pub returns-in-Err : goal.returns-in-Err
returns-in-Err g c = reached_end c.loop-n.invariant c.loop-n-test.true c.in-Err.ending _ c.in-Err.ensures

pub returns-then-is_closed : goal.returns-then-is_closed
returns-then-is_closed g c =
    telling-shut
    (telling-line c.loop-n.invariant c.loop-n-test.true c.next_record.ensures (ap told c.in-Ok.is) c.next_record.auto.buf
    (λ i. record { head = c.head-head.ensures i; body = c.part.ensures i })
    c.line.ensures.text c.line.ensures.next)
    (c.if-is_closed.ensures.0 refl)

pub loop-n-preserved : goal.loop-n-preserved
loop-n-preserved g c =
    telling-line c.loop-n.invariant c.loop-n-test.true c.next_record.ensures (ap told c.in-Ok.is) c.next_record.auto.buf
    (λ i. record { head = c.head-head.ensures i; body = c.part.ensures i })
    c.line.ensures.text c.line.ensures.next

pub returns : goal.returns
returns g c = reached-all c.loop-n.invariant (omega arith)
