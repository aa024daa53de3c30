-- `receiver::take_seat` meets its contract. Assumes nothing.
use Rattle.wire.proofs.Basics.{◌∙◌, sym}
use Rattle.receiver.proofs.Ends.{oldest-within, seated-free, seated-full}
use Rattle.receiver.proofs.take_seat.Goals as goal

pub release-requires : goal.release-requires
release-requires c =
    let args = c.args in
    (oldest-within args.state.now c.oldest-s.result c.oldest-s.ensures, c.requires)

pub returns-in_default : goal.returns-in_default
returns-in_default c =
    let args = c.args in
    seated-full args.state.now args.names.now c.oldest-s.result c.word_of-sender.result c.word_of-sequence.result _ _ (sym c.in_default.is ∙ c.lowest_free.ensures) c.oldest-s.ensures c.word_of-sender.ensures c.word_of-sequence.ensures
    c.release.ensures

pub returns : goal.returns
returns c =
    let args = c.args in
    seated-free args.state.now args.names.now c.requires _ (sym c.in-Some.is ∙ c.lowest_free.ensures)
