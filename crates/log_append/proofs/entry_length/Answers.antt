-- `log_append::entry_length` meets its contract. Assumes nothing.
use Rattle.wire.proofs.Basics.{length, arith}
use Rattle.log_append.proofs.Writing.{entry-size, seven-most}
use Rattle.log_append.proofs.entry_length.Goals as goal

pub overflow_add-result : goal.overflow_add-result
overflow_add-result c =
    let a = c.args in
    omega (arith, seven-most a.sender, seven-most a.tick)

pub overflow_add-result-2 : goal.overflow_add-result-2
overflow_add-result-2 c =
    let a = c.args in
    omega (arith, seven-most a.sender, seven-most a.tick, seven-most (length a.datagram.now))

pub overflow_add-result-3 : goal.overflow_add-result-3
overflow_add-result-3 c =
    let a = c.args in
    omega (arith, seven-most a.sender, seven-most a.tick, seven-most (length a.datagram.now))

pub returns : goal.returns
returns c =
    let a = c.args in
    omega (arith, entry-size a.sender a.tick a.datagram.now)
