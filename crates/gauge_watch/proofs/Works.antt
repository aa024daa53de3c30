-- The worked packets are noted as the papers say, computed in one statement. Assumes nothing.
use Rattle.wire.proofs.Basics.{◌≡◌, refl}
use Rattle.wire.specs.Bytes.{be}
use Rattle.moss.specs.Blocks.{messages_within}
use Rattle.moss.specs.Packet.{packet_of}
use Rattle.gauge_watch.specs.Heard.{silent, noted_of}
use Rattle.gauge_watch.specs.Runs.{noted_all}
use Rattle.gauge_watch.specs.Worked.{come, gives}

pub worked : noted_all silent come ≡ gives
unfolding be messages_within packet_of noted_of
worked = refl
