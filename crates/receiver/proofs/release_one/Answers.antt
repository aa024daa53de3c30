-- `receiver::release_one` meets its contract. Assumes nothing.
use Rattle.wire.proofs.Basics.{◌∙◌, sym}
use Rattle.receiver.proofs.Forgetting.{free_stays, other-stays, its-goes}
use Rattle.receiver.proofs.release_one.Goals as goal

pub returns-then-word_of-eq0 : goal.returns-then-word_of-eq0
returns-then-word_of-eq0 c =
    let if1 = c.if-word_of-eq0 in
    let args = c.args in
    free_stays args.state.now args.names.now args.i c.requires.0 args.sender c.requires.1 (sym c.word_of.ensures ∙ if1.true)

pub returns-then-word_of-sender : goal.returns-then-word_of-sender
returns-then-word_of-sender c =
    let if2 = c.if-word_of-sender in
    let args = c.args in
    other-stays args.state.now args.names.now args.i c.requires.0 args.sender c.requires.1 (λ q. if2.true (c.word_of-2.ensures ∙ q))

pub returns : goal.returns
returns c =
    let args = c.args in
    its-goes args.state.now args.names.now args.i c.requires.0 args.sender _ _ (λ q. c.if-word_of-eq0.false (c.word_of.ensures ∙ q)) (sym c.word_of-2.ensures ∙ c.if-word_of-sender.false) c.release.ensures
