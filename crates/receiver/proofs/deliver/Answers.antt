-- `receiver::deliver` meets its contract. Assumes nothing.
use Rattle.wire.proofs.Basics.{◌∙◌, ap, refl, replicate, arith}
use Rattle.wire.specs.Overlay.{overlay}
use Rattle.datagram.specs.Limits.{max_name}
use Rattle.receiver_state.proofs.Moves.{place-small}
use Rattle.receiver.proofs.Ends.{delivered}
use Rattle.receiver.proofs.deliver.Goals as goal

pub overflow_mul-at : goal.overflow_mul-at
overflow_mul-at c =
    let word4 = c.word-room in
    let args = c.args in
    omega (arith, word4.ensures, place-small args.s word4.result c.requires.0 (rw word4.ensures c.requires.1.room))

pub returns : goal.returns
returns c =
    let args = c.args in
    let named = c.zero_filled-name.ensures ∙ ap (λ x. overlay (replicate max_name 0) 0 x) c.part.ensures in
    delivered args.state.now args.names.now c.requires.1.shape args.s c.requires.0 c.word_of-sender.result c.word_of-sequence.result c.word_of-size.result c.word-room.result _ c.zero_filled-name.result _ _ _ args.gone
    c.word_of-sender.ensures c.word_of-sequence.ensures c.word_of-size.ensures c.word-room.ensures refl named c.remember_key.ensures c.release.ensures
