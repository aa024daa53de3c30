-- A packet that is read, or the reader's refusal. Assumes nothing.
use Rattle.wire.proofs.Basics.{sym, ap}
use Rattle.moss.specs.Packet.{packet_of}
use Rattle.gauge_watch.specs.Heard.{said, asked, after}
use Rattle.gauge_watch.proofs.Hears.{not-read}
use Rattle.gauge_watch.proofs.see_packet.Goals as goal

pub returns-in-Err : goal.returns-in-Err
returns-in-Err c =
    let a = c.args in
    let e = not-read (packet_of a.p.now) _ c.in-Err.ensures in
    record { answer = sym (ap (asked (said a.g)) e); gauge = sym (ap (after (said a.g)) e) }
