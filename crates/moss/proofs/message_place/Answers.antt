-- Where the n-th message stands. Assumes nothing.
use Rattle.wire.proofs.Basics.{◌∙◌, ap}
use Rattle.moss.specs.Packet.{packet_of}
use Rattle.moss.specs.Answers.{locates}
use Rattle.moss.proofs.Looks.{looked-place, place-or-none}
use Rattle.moss.proofs.message_place.Goals as goal

pub returns : goal.returns
returns c =
    let a = c.args in
    ap locates c.ok_or.ensures.value
    ∙ place-or-none c.in_ok-found.found
    ∙ looked-place a.n (packet_of a.p.now) _ c.in_ok-found.ensures
