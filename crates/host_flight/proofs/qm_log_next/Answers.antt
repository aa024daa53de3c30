-- `host_flight::qm_log_next` meets its contract. Assumes nothing.
use Rattle.wire.proofs.Basics.{sym, refl, le-ltb, lt-ltb}
use Rattle.host_flight.proofs.Read.{next-short, next-told}
use Rattle.host_flight.proofs.qm_log_next.Goals as goal

pub returns-then-entry-lt-ENTRY : goal.returns-then-entry-lt-ENTRY
returns-then-entry-lt-ENTRY c = rw c.number.ensures (next-short _ _ _ (lt-ltb _ 6 c.if-entry-lt-ENTRY.true))

pub returns-in-Ok-Some : goal.returns-in-Ok-Some
returns-in-Ok-Some c =
    let e = rw c.in-Ok-Some.field-0-is at c.in-Ok-Some.ensures in
    next-told _ _ _ _ _ _ (le-ltb _ 6 c.if-entry-lt-ENTRY.false) (sym e) refl c.put_found.ensures

pub returns-in-Ok-None : goal.returns-in-Ok-None
returns-in-Ok-None c =
    let e = rw c.in-Ok-None.field-0-is at c.in-Ok-None.ensures in
    next-told _ _ _ _ _ _ (le-ltb _ 6 c.if-entry-lt-ENTRY.false) (sym e) refl c.put_end.ensures

pub returns-in-Err : goal.returns-in-Err
returns-in-Err c = next-told _ _ _ _ _ _ (le-ltb _ 6 c.if-entry-lt-ENTRY.false) (sym c.in-Err.ensures) c.number-in-Err.ensures refl
