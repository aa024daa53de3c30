-- `host::put_datagram` meets its contract. Assumes nothing.
use Rattle.wire.proofs.Basics.{sym}
use Rattle.datagram.specs.Limits.{max_payload, max_fragments}
use Rattle.host.proofs.Accept.{places_fit}
use Rattle.host.proofs.put_datagram.Goals as goal

pub put_header-requires : goal.put_header-requires
put_header-requires c = places_fit max_payload max_fragments c.args.datagram.now _ (sym c.in_ok-h.ensures.answer)
