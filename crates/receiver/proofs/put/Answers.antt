-- `receiver::put` meets its contract. Assumes nothing.
use Rattle.wire.proofs.Basics.{◌∙◌, refl, ◌+◌}
use Rattle.datagram.specs.Said.{fragment_in}
use Rattle.slots.specs.Words.{block_at, held_word}
use Rattle.receiver_state.proofs.StepListCases.{held_all_lem, ready-after}
use Rattle.receiver.proofs.Ends.{put-kept, put-delivered}
use Rattle.receiver.proofs.put.Goals as goal

pub deliver-requires : goal.deliver-requires
deliver-requires c =
    let args = c.args in
    (c.requires.0, ready-after args.state.now args.names.now c.keep.new.state c.keep.new.names _ c.keep.ensures c.requires.1)

pub returns-then-all_held : goal.returns-then-all_held
returns-then-all_held c =
    let args = c.args in
    let kept = c.keep.new in
    let all = held_all_lem args.state.now args.names.now kept.state kept.names args.s _ (block_at args.s + held_word) _ c.word_of-n.result _ c.requires.0 refl refl
    c.keep.ensures c.word_of-n.ensures c.all_held.ensures in
    λ store ledger. put-delivered args.state.now args.names.now args.s c.requires.0 args.gone (fragment_in args.d.now args.h) kept.state kept.names c.keep.ensures store ledger _ _ _ (all ∙ c.if-all_held.true) c.deliver.ensures

pub returns : goal.returns
returns c =
    let no_name = c.no_name in
    let args = c.args in
    let kept = c.keep.new in
    let all = held_all_lem args.state.now args.names.now kept.state kept.names args.s _ (block_at args.s + held_word) _ c.word_of-n.result _ c.requires.0 refl refl
    c.keep.ensures c.word_of-n.ensures c.all_held.ensures in
    λ store ledger. put-kept args.state.now args.names.now args.s c.requires.0 args.gone (fragment_in args.d.now args.h) kept.state kept.names c.keep.ensures store ledger _ (all ∙ c.if-all_held.false) no_name.ensures
