-- `host_flight::qm_log_first` meets its contract. Assumes nothing.
use Rattle.wire.proofs.Basics.{sym, refl, le-ltb, lt-ltb}
use Rattle.host_flight.proofs.Read.{first_short, first-told}
use Rattle.host_flight.proofs.qm_log_first.Goals as goal

pub returns-then-head-lt-HEAD : goal.returns-then-head-lt-HEAD
returns-then-head-lt-HEAD c = rw c.number.ensures (first_short _ _ (lt-ltb _ 3 c.if-head-lt-HEAD.true))

pub returns-in-Ok : goal.returns-in-Ok
returns-in-Ok c = first-told _ _ _ _ _ (le-ltb _ 3 c.if-head-lt-HEAD.false) (sym c.in-Ok.ensures) refl c.put_words.ensures

pub returns-in-Err : goal.returns-in-Err
returns-in-Err c = first-told _ _ _ _ _ (le-ltb _ 3 c.if-head-lt-HEAD.false) (sym c.in-Err.ensures) c.number-in-Err.ensures refl
