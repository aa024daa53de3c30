-- `memory::shift` meets its contract. Assumes nothing.
use Rattle.wire.proofs.Basics.{arith}
use Rattle.memory.proofs.Views.{copied-shifted}
use Rattle.memory.proofs.shift.Goals as goal

pub returns : goal.returns
returns c =
    let a = c.args in
    let m = c.copy_within.ensures.by_index in
    copied-shifted a.memory.now c.copy_within.new.self a.a c.requires c.copy_within.ensures.len
    (λ k d g l. m.0 k d g (omega arith)) (λ k d l. m.1 k d l) (λ k d g. m.2 k d (omega arith))
