-- The n-th message is the part at its place. Assumes nothing.
use Rattle.wire.proofs.Basics.{◌∙◌, sym, ap}
use Rattle.moss.specs.Packet.{packet_of}
use Rattle.moss.specs.Answers.{locates}
use Rattle.moss.proofs.Parts.{message-part, message-none}
use Rattle.moss.proofs.message.Goals as goal

pub returns-in-Ok : goal.returns-in-Ok
returns-in-Ok c =
    let a = c.args in
    c.part.ensures ∙ message-part a.p.now a.n _ (sym c.message_place.ensures ∙ ap locates c.in-Ok.is)

pub returns-in-Err : goal.returns-in-Err
returns-in-Err c =
    let a = c.args in
    c.part-in-Err.ensures ∙ sym (message-none (packet_of a.p.now) a.n _ (sym c.message_place.ensures ∙ ap locates c.in-Err.is))
