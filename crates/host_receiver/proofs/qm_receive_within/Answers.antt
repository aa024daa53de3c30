-- `host_receiver::qm_receive_within` meets its contract. Assumes nothing.
use Rattle.wire.proofs.Basics.{◌∙◌, sym}
use Rattle.receiver.specs.Lent.{lent}
use Rattle.wire.specs.Slices.{◌⇒◌}
use Rattle.host_receiver.proofs.Telling.{short-told, heard-told}
use Rattle.host_receiver.proofs.qm_receive_within.Goals as goal

pub returns-then-no_room : goal.returns-then-no_room
returns-then-no_room c = short-told _ _ _ _ _ _ c.number.ensures (sym c.no_room.ensures ∙ c.if-no_room.true)

pub returns : goal.returns
returns c =
    let room = sym c.no_room.ensures ∙ c.if-no_room.false in
    heard-told _ _ (lent _ _ _ _) (_ ⇒ _) (_ ⇒ _) _ _ (lent _ _ _ _) room c.receive_within-outcome.ensures c.tell.ensures
