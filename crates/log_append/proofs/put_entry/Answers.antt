-- `log_append::put_entry` meets its contract: the three numbers and the bytes, each after the one before. Assumes nothing.
use Rattle.wire.proofs.Basics.{ap, ℕ, ◌+◌, arith}
use Rattle.log_append.proofs.Writing.{entry-size, entry-overlay}
use Rattle.log_append.proofs.put_entry.Goals as goal

pub overflow_add-a : goal.overflow_add-a
overflow_add-a c =
    let a = c.args in
    omega (arith, entry-size a.sender a.tick a.datagram.now)

pub overflow_add-b : goal.overflow_add-b
overflow_add-b c =
    let a = c.args in
    omega (arith, entry-size a.sender a.tick a.datagram.now)

pub overflow_add-c : goal.overflow_add-c
overflow_add-c c =
    let a = c.args in
    omega (arith, entry-size a.sender a.tick a.datagram.now)

pub returns : goal.returns
returns c =
    let a = c.args in
    entry-overlay a.out.now _ _ _ _ a.at _ _ _ a.sender a.tick a.datagram.now
    c.put_seven.ensures (ap (λ (n : ℕ). a.at + n) c.seven_length.ensures)
    c.put_seven-2.ensures (ap (λ (n : ℕ). a.at + c.seven_length.result + n) c.seven_length-2.ensures)
    c.put_seven-3.ensures (ap (λ (n : ℕ). a.at + c.seven_length.result + c.seven_length-2.result + n) c.seven_length-3.ensures)
    c.put_bytes.ensures
