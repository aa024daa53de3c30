-- `datagram::until_zero` meets its contract. Assumes nothing.
use Rattle.wire.proofs.Basics.{◌∙◌, ap, ℕ, arith}
use Rattle.std.specs.Option.{unwrap_or}
use Rattle.std.proofs.Common.{Option}
use Rattle.datagram.proofs.Names.{zero-within, zero-le-length}
use Rattle.datagram.proofs.until_zero.Goals as goal

pub returns : goal.returns
returns c =
    let b = c.args.b.now in
    let n = c.min-n.result in
    c.unwrap_or.ensures
    ∙ ap (λ (o : Option ℕ). unwrap_or o n) c.first_zero.ensures
    ∙ zero-within b n (omega arith)
    ∙ omega (arith, zero-le-length b)
