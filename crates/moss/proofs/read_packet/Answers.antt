-- What a packet says. Assumes nothing.
use Rattle.moss.specs.Packet.{packet_of}
use Rattle.moss.proofs.Looks.{looked-head}
use Rattle.moss.proofs.read_packet.Goals as goal

pub returns : goal.returns
returns c = looked-head 0 (packet_of c.args.p.now) _ c.in_ok-header.ensures
