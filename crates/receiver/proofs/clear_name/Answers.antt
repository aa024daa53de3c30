-- `receiver::clear_name` meets its contract. Assumes nothing.
use Rattle.wire.proofs.Basics.{rules}
use Rattle.datagram.specs.Limits.{max_name}
use Rattle.receiver.proofs.Clears.{cleared}
use Rattle.receiver.proofs.clear_name.Goals as goal

pub returns : goal.returns
returns c = cleared c.args.names.now _ c.args.a max_name c.requires (c.fill.ensures.after (λ y e. search rules))
